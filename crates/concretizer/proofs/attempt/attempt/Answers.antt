use Rattle.run_output.specs.Words.{words_of}
use Rattle.concretizer.proofs.Stages.{not_refused, not_begun, follows_words, stops_at_once, held_still, none_kept, not_read, not_put, not_said}
use Rattle.concretizer.proofs.attempt.attempt.Goals as goal
use Rattle.std.proofs.Common.{refl, sym, inr, arith, IfSome, Option, Err}
use Rattle.outside_desk.specs.Files.{Files}
use Rattle.outside_desk.proofs.Tellings.{told_still}
use Rattle.run_output.specs.Evidence.{evidence}
use Rattle.concretizer.proofs.Told.{told_unput}
use Rattle.concretizer.specs.Attempts.{Attempts}
use Rattle.concretizer.specs.Headline.{Keeps}
use Rattle.concretizer.specs.Logs.{AttemptKeeps}

pub returns-in-Ok-clause-at_once : goal.returns-in-Ok-clause-at_once
returns-in-Ok-clause-at_once g c = λ none. not_refused (words_of c.args.words.now) c.in-Ok.command c.in-Ok.ensures.read none

pub returns-in-Err-clause-outcome : goal.returns-in-Err-clause-outcome
returns-in-Err-clause-outcome g c =
    let files = g.D.Desk.files c.args.desk.now in
    let said = g.O.Sink.said c.args.out.now in
    told_unput
    (λ (m : Option Files). IfSome m
    (λ held. Attempts evidence held (words_of c.args.words.now) files said said (Err c.in-Err.stop)))
    files files (inr refl) (not_begun (words_of c.args.words.now) files said c.in-Err.stop c.in-Err.ensures.read)

pub returns-in-Err-clause-follows : goal.returns-in-Err-clause-follows
returns-in-Err-clause-follows g c = follows_words _ (words_of c.args.words.now) c.in-Err.stop c.in-Err.ensures.read

pub returns-in-Err-clause-at_once : goal.returns-in-Err-clause-at_once
returns-in-Err-clause-at_once g c = λ none.
    (stops_at_once (words_of c.args.words.now) c.in-Err.stop c.in-Err.ensures.read, refl, refl, refl, refl, refl)

pub returns-in-Err-clause-held : goal.returns-in-Err-clause-held
returns-in-Err-clause-held g c =
    let files = g.D.Desk.files c.args.desk.now in
    told_unput (λ (m : Option Files). IfSome m (λ held. Keeps evidence held (words_of c.args.words.now) files))
    files files (inr refl) (held_still (words_of c.args.words.now) files)

pub returns-in-Err-clause-kept : goal.returns-in-Err-clause-kept
returns-in-Err-clause-kept g c =
    let files = g.D.Desk.files c.args.desk.now in
    let said = g.O.Sink.said c.args.out.now in
    told_unput
    (λ (m : Option Files). IfSome m
    (λ held. AttemptKeeps held (words_of c.args.words.now) files (said, said) c.new.result (Err c.in-Err.stop)))
    files files (inr refl)
    (none_kept (words_of c.args.words.now) files (said, said) c.new.result c.in-Err.stop c.in-Err.ensures.read c.new.ensures)

pub returns-in-Err-clause-unread : goal.returns-in-Err-clause-unread
returns-in-Err-clause-unread g c = λ failed. sym (told_still _ _ (inr refl))

pub returns-in-Err-clause-read : goal.returns-in-Err-clause-read
returns-in-Err-clause-read g c = record {
  later = omega arith;
  cause = λ fails. absurd (not_read (words_of c.args.words.now) c.in-Err.stop c.in-Err.ensures.read fails);
}

pub returns-in-Err-clause-put : goal.returns-in-Err-clause-put
returns-in-Err-clause-put g c = record {
  later = omega arith;
  cause = λ fails. absurd (not_put (words_of c.args.words.now) c.in-Err.stop c.in-Err.ensures.read fails);
}

pub returns-in-Err-clause-said : goal.returns-in-Err-clause-said
returns-in-Err-clause-said g c = record {
  later = omega arith;
  cause = λ fails. absurd (not_said (words_of c.args.words.now) c.in-Err.stop c.in-Err.ensures.read fails);
}
