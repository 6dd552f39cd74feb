use Rattle.std.proofs.Common.{sym, ap, refl, subst, ◌∙◌, IfSome, Option}
use Rattle.run_output.specs.Words.{Command, cert_of_command, lock_of_command, words_of}
use Rattle.concretizer.proofs.Logs.{answered_log, stopped_log}
use Rattle.concretizer.proofs.Left.{stopped, answered, held, follows, unsaid}
use Rattle.concretizer.proofs.Shown.{has_shown}
use Rattle.concretizer.proofs.Stages.{held_still}
use Rattle.concretizer.proofs.Told.{none_put, told_if, told_unput}
use Rattle.concretizer.proofs.Unread.{attempted, follows_unread, unkept}
use Rattle.outside_desk.specs.Files.{Files}
use Rattle.outside_desk.proofs.Tellings.{told_still}
use Rattle.concretizer.specs.Attempts.{Attempts, Follows}
use Rattle.concretizer.specs.Headline.{Keeps}
use Rattle.run_output.specs.Evidence.{evidence}
use Rattle.concretizer.specs.Asked.{IsAsked}
use Rattle.concretizer.proofs.attempt.attempt_by.Goals as goal

-- ---- reading stopped

pub returns-in_err-task-clause-outcome : goal.returns-in_err-task-clause-outcome
returns-in_err-task-clause-outcome g c =
    let after = g.D.Desk.files c.read_task.new.desk in
    let said = g.O.Sink.said c.args.out.now in
    told_unput
    (λ (m : Option Files). IfSome m
    (λ files. Attempts evidence files (words_of c.args._words.now) after said said c.from_residual.result))
    (g.D.Desk.files c.args.desk.now) after c.in_err-task.ensures.only_reads.same
    (attempted (words_of c.args._words.now) c.args.command.now c.requires.named c.in_err-task.field-0.0 c.from_residual.result
    c.from_residual.ensures.1 after said c.in_err-task.ensures.read)

pub returns-in_err-task-clause-follows : goal.returns-in_err-task-clause-follows
returns-in_err-task-clause-follows g c =
    let after = g.D.Desk.files c.read_task.new.desk in
    told_unput (λ (m : Option Files). Follows m (words_of c.args._words.now) c.from_residual.result)
    (g.D.Desk.files c.args.desk.now) after c.in_err-task.ensures.only_reads.same
    (follows_unread (words_of c.args._words.now) c.args.command.now c.requires.named c.in_err-task.field-0.0 c.from_residual.result
    c.from_residual.ensures.1 after c.in_err-task.ensures.path)

pub returns-in_err-task-clause-unread : goal.returns-in_err-task-clause-unread
returns-in_err-task-clause-unread g c = λ failed. sym (told_still _ _ c.in_err-task.ensures.only_reads.same)

pub returns-in_err-task-clause-held : goal.returns-in_err-task-clause-held
returns-in_err-task-clause-held g c =
    let after = g.D.Desk.files c.read_task.new.desk in
    told_unput (λ (m : Option Files). IfSome m (λ files. Keeps evidence files (words_of c.args._words.now) after))
    (g.D.Desk.files c.args.desk.now) after c.in_err-task.ensures.only_reads.same (held_still (words_of c.args._words.now) after)

pub returns-in_err-task-clause-kept : goal.returns-in_err-task-clause-kept
returns-in_err-task-clause-kept g c =
    unkept (words_of c.args._words.now) c.args.command.now c.requires.named c.in_err-task.field-0.0 c.from_residual.result
    c.from_residual.ensures.1 _ _ (_, _) _ c.requires.empty

-- ---- writing

pub returns-in_err-answer-clause-outcome : goal.returns-in_err-answer-clause-outcome
returns-in_err-answer-clause-outcome g c =
    told_if _ _ _ _ c.in_ok-task.ensures.only_reads.same (none_put _ _ c.in_ok-task.task _ _ c.in_err-answer.ensures.held)
    (stopped (words_of c.args._words.now) c.args.command.now _ _ c.in_ok-task.task c.in_err-answer.field-0.0
    c.from_residual-in_err-answer.result _ _ _ _ _
    c.from_residual-in_err-answer.ensures.1 c.requires.named c.in_ok-task.ensures.read refl
    (ap (λ (k : Command). k.lock) c.command.view_is ∙ sym (ap lock_of_command c.requires.named))
    (ap (λ (k : Command). k.cert) c.command.view_is ∙ sym (ap cert_of_command c.requires.named)) c.in_err-answer.ensures.left)

pub returns-in_err-answer-clause-follows : goal.returns-in_err-answer-clause-follows
returns-in_err-answer-clause-follows g c =
    let asked : IsAsked (words_of c.args._words.now) =
    record { command = c.args.command.now; named = c.requires.named; asks = c.in_ok-task.ensures.specs } in
    follows _ (words_of c.args._words.now) _ _ c.in_ok-task.task c.in_err-answer.field-0.0 c.from_residual-in_err-answer.result _ _ _ _
    c.from_residual-in_err-answer.ensures.1 asked c.in_ok-task.ensures.work c.in_ok-task.ensures.roots
    (ap (λ (k : Command). k.lock) c.command.view_is ∙ sym (ap lock_of_command c.requires.named))
    (ap (λ (k : Command). k.cert) c.command.view_is ∙ sym (ap cert_of_command c.requires.named)) c.in_err-answer.ensures.left

pub returns-clause-follows : goal.returns-clause-follows
returns-clause-follows g c =
    record { command = c.args.command.now; named = c.requires.named; asks = c.in_ok-task.ensures.specs }

pub returns-clause-outcome : goal.returns-clause-outcome
returns-clause-outcome g c =
    told_if _ _ _ _ c.in_ok-task.ensures.only_reads.same (none_put _ _ c.in_ok-task.task _ _ c.in_ok-answer.ensures.held)
    (answered (words_of c.args._words.now) c.args.command.now _ _ c.in_ok-task.task _ _ _ _ _ _ c.requires.named
    c.in_ok-task.ensures.read refl
    (ap (λ (k : Command). k.lock) c.command.view_is ∙ sym (ap lock_of_command c.requires.named))
    (ap (λ (k : Command). k.cert) c.command.view_is ∙ sym (ap cert_of_command c.requires.named)) c.in_ok-answer.ensures.left)

pub returns-clause-held : goal.returns-clause-held
returns-clause-held g c =
    told_if _ _ _ _ c.in_ok-task.ensures.only_reads.same (none_put _ _ c.in_ok-task.task _ _ c.in_ok-answer.ensures.held)
    (held (words_of c.args._words.now) c.args.command.now _ _ c.in_ok-task.task _ _ _ c.requires.named
    c.in_ok-task.ensures.read refl
    (ap (λ (k : Command). k.lock) c.command.view_is ∙ sym (ap lock_of_command c.requires.named))
    (ap (λ (k : Command). k.cert) c.command.view_is ∙ sym (ap cert_of_command c.requires.named)) c.in_ok-answer.ensures.held)

pub returns-in_err-answer-clause-held : goal.returns-in_err-answer-clause-held
returns-in_err-answer-clause-held g c =
    told_if _ _ _ _ c.in_ok-task.ensures.only_reads.same (none_put _ _ c.in_ok-task.task _ _ c.in_err-answer.ensures.held)
    (held (words_of c.args._words.now) c.args.command.now _ _ c.in_ok-task.task _ _ _ c.requires.named
    c.in_ok-task.ensures.read refl
    (ap (λ (k : Command). k.lock) c.command.view_is ∙ sym (ap lock_of_command c.requires.named))
    (ap (λ (k : Command). k.cert) c.command.view_is ∙ sym (ap cert_of_command c.requires.named)) c.in_err-answer.ensures.held)

pub returns-clause-shown : goal.returns-clause-shown
returns-clause-shown g c =
    told_if _ _ _ _ c.in_ok-task.ensures.only_reads.same (none_put _ _ c.in_ok-task.task _ _ c.in_ok-answer.ensures.held)
    (has_shown _ _ _ _ _ _ c.args.command.now c.in_ok-task.task c.in_ok-task.ensures.work (words_of c.args._words.now) _ _ c.requires.named
    c.in_ok-task.ensures.seen c.in_ok-answer.ensures.left)

pub returns-in_err-answer-clause-unsaid : goal.returns-in_err-answer-clause-unsaid
returns-in_err-answer-clause-unsaid g c =
    unsaid _ _ c.in_ok-task.task c.in_err-answer.field-0.0 c.from_residual-in_err-answer.result _ _ _ _
    c.from_residual-in_err-answer.ensures.1 c.in_err-answer.ensures.left

pub returns-clause-kept : goal.returns-clause-kept
returns-clause-kept g c =
    told_if _ _ _ _ c.in_ok-task.ensures.only_reads.same (none_put _ _ c.in_ok-task.task _ _ c.in_ok-answer.ensures.held)
    (answered_log (words_of c.args._words.now) c.args.command.now _ _ c.in_ok-task.task _ _ _ _ _ _ _ c.requires.named
    c.in_ok-task.ensures.read refl
    (ap (λ (k : Command). k.lock) c.command.view_is ∙ sym (ap lock_of_command c.requires.named))
    (ap (λ (k : Command). k.cert) c.command.view_is ∙ sym (ap cert_of_command c.requires.named)) c.in_ok-answer.ensures.kept)

pub returns-in_err-answer-clause-kept : goal.returns-in_err-answer-clause-kept
returns-in_err-answer-clause-kept g c =
    told_if _ _ _ _ c.in_ok-task.ensures.only_reads.same (none_put _ _ c.in_ok-task.task _ _ c.in_err-answer.ensures.held)
    (stopped_log (words_of c.args._words.now) c.args.command.now _ _ c.in_ok-task.task _ c.in_err-answer.field-0.0
    c.from_residual-in_err-answer.result _ _ _ _ _ c.from_residual-in_err-answer.ensures.1 c.requires.named
    c.in_ok-task.ensures.read refl
    (ap (λ (k : Command). k.lock) c.command.view_is ∙ sym (ap lock_of_command c.requires.named))
    (ap (λ (k : Command). k.cert) c.command.view_is ∙ sym (ap cert_of_command c.requires.named)) c.in_err-answer.ensures.kept)
