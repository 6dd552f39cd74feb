use Rattle.std.proofs.Common.{refl, Ok, Err}
use Rattle.run_output.specs.Evidence.{evidence}
use Rattle.run_output.specs.Senses.{meaning}
use Rattle.run_output.specs.Words.{words_of}
use Rattle.run_output.specs.Status.TheVariants as statuses
use Rattle.concretizer.proofs.Answered.{done, unsatisfiable, undecided, stale, stopped_shown}
use Rattle.concretizer.proofs.Ends.{reports_words, refused, settles, settled, complete, due, written, refusals_due, steady}
use Rattle.concretizer.proofs.Kept.{others}
use Rattle.concretizer.proofs.Faults.{read_fault, write_fault, no_memory}
use Rattle.concretizer.proofs.Logs.{keeps_for}
use Rattle.concretizer.proofs.Meaning.{attempts_meant, keeps_meant}
use Rattle.concretizer.proofs.Reported.{unanswered, usage}
use Rattle.concretizer.proofs.Shown.{shown_solved, shown_stale}
use Rattle.concretizer.proofs.top.run.Goals as goal

-- ---- Done

pub returns-in-Ok-Solved-clause-words : goal.returns-in-Ok-Solved-clause-words
returns-in-Ok-Solved-clause-words g c = λ none. absurd ((c.in-Ok-Solved.ensures.at_once none).0)

pub returns-in-Ok-Solved-clause-done : goal.returns-in-Ok-Solved-clause-done
returns-in-Ok-Solved-clause-done g c = λ is.
    done meaning (words_of c.args.words.now) _ (_, _) (_, _) refl _ c.in-Ok-Solved.field-0 c.in-Ok-Solved.field-0-is
    (attempts_meant c.task_laws.ensures.any (words_of c.args.words.now) _ _ _ _ (Ok c.in-Ok-Solved.field-0) c.in-Ok-Solved.ensures.outcome)

pub returns-in-Ok-Solved-clause-shown : goal.returns-in-Ok-Solved-clause-shown
returns-in-Ok-Solved-clause-shown g c = λ is.
    shown_solved (words_of c.args.words.now) _ c.in-Ok-Solved.field-0 c.in-Ok-Solved.field-0-is c.in-Ok-Solved.ensures.shown

pub returns-in-Ok-Solved-clause-others : goal.returns-in-Ok-Solved-clause-others
returns-in-Ok-Solved-clause-others g c = others (words_of c.args.words.now) _ _ c.in-Ok-Solved.ensures.held

pub returns-in-Ok-Solved-clause-held : goal.returns-in-Ok-Solved-clause-held
returns-in-Ok-Solved-clause-held g c = keeps_meant c.task_laws.ensures.any (words_of c.args.words.now) _ _ c.in-Ok-Solved.ensures.held

pub returns-in-Ok-Solved-clause-logged : goal.returns-in-Ok-Solved-clause-logged
returns-in-Ok-Solved-clause-logged g c = record {
  answered = done evidence (words_of c.args.words.now) _ (_, _) (_, _) refl _ c.in-Ok-Solved.field-0 c.in-Ok-Solved.field-0-is
      c.in-Ok-Solved.ensures.outcome;
  held = c.in-Ok-Solved.ensures.held;
  complete = settled _ (words_of c.args.words.now) (_, _) (_, _) (_, _) (_, _) statuses.Done tt;
  due = written c.task_laws.ensures.one _ (words_of c.args.words.now) c.in-Ok-Solved.field-0 _ (_, _) (_, _) (_, _) (_, _) (_, _)
      statuses.Done c.in-Ok-Solved.ensures.outcome;
}

pub returns-in-Ok-Solved-clause-due : goal.returns-in-Ok-Solved-clause-due
returns-in-Ok-Solved-clause-due g c =
    refusals_due c.task_laws.ensures.none _ (words_of c.args.words.now) (_, _) (_, _) (_, _) (_, _) statuses.Done
    (written c.task_laws.ensures.one _ (words_of c.args.words.now) c.in-Ok-Solved.field-0 _ (_, _) (_, _) (_, _) (_, _) (_, _) statuses.Done
    c.in-Ok-Solved.ensures.outcome)

-- ---- Unsatisfiable

pub returns-in-Ok-Unsolved-clause-words : goal.returns-in-Ok-Unsolved-clause-words
returns-in-Ok-Unsolved-clause-words g c = λ none. absurd ((c.in-Ok-Unsolved.ensures.at_once none).0)

pub returns-in-Ok-Unsolved-clause-unsatisfiable : goal.returns-in-Ok-Unsolved-clause-unsatisfiable
returns-in-Ok-Unsolved-clause-unsatisfiable g c = λ is.
    unsatisfiable meaning (words_of c.args.words.now) _ (_, _) (_, _) refl _ c.in-Ok-Unsolved.field-0 c.in-Ok-Unsolved.field-0-is
    (attempts_meant c.task_laws.ensures.any (words_of c.args.words.now) _ _ _ _ (Ok c.in-Ok-Unsolved.field-0)
    c.in-Ok-Unsolved.ensures.outcome)

pub returns-in-Ok-Unsolved-clause-others : goal.returns-in-Ok-Unsolved-clause-others
returns-in-Ok-Unsolved-clause-others g c = others (words_of c.args.words.now) _ _ c.in-Ok-Unsolved.ensures.held

pub returns-in-Ok-Unsolved-clause-held : goal.returns-in-Ok-Unsolved-clause-held
returns-in-Ok-Unsolved-clause-held g c = keeps_meant c.task_laws.ensures.any (words_of c.args.words.now) _ _ c.in-Ok-Unsolved.ensures.held

pub returns-in-Ok-Unsolved-clause-logged : goal.returns-in-Ok-Unsolved-clause-logged
returns-in-Ok-Unsolved-clause-logged g c = record {
  answered = unsatisfiable evidence (words_of c.args.words.now) _ (_, _) (_, _) refl _ c.in-Ok-Unsolved.field-0 c.in-Ok-Unsolved.field-0-is
      c.in-Ok-Unsolved.ensures.outcome;
  held = c.in-Ok-Unsolved.ensures.held;
  complete = settled _ (words_of c.args.words.now) (_, _) (_, _) (_, _) (_, _) statuses.Unsatisfiable tt;
  due = written c.task_laws.ensures.one _ (words_of c.args.words.now) c.in-Ok-Unsolved.field-0 _ (_, _) (_, _) (_, _) (_, _) (_, _)
      statuses.Unsatisfiable c.in-Ok-Unsolved.ensures.outcome;
}

pub returns-in-Ok-Unsolved-clause-due : goal.returns-in-Ok-Unsolved-clause-due
returns-in-Ok-Unsolved-clause-due g c =
    refusals_due c.task_laws.ensures.none _ (words_of c.args.words.now) (_, _) (_, _) (_, _) (_, _) statuses.Unsatisfiable
    (written c.task_laws.ensures.one _ (words_of c.args.words.now) c.in-Ok-Unsolved.field-0 _ (_, _) (_, _) (_, _) (_, _) (_, _)
    statuses.Unsatisfiable c.in-Ok-Unsolved.ensures.outcome)

-- ---- Undecided

pub returns-in-Ok-Undecided-clause-words : goal.returns-in-Ok-Undecided-clause-words
returns-in-Ok-Undecided-clause-words g c = λ none. absurd ((c.in-Ok-Undecided.ensures.at_once none).0)

pub returns-in-Ok-Undecided-clause-undecided : goal.returns-in-Ok-Undecided-clause-undecided
returns-in-Ok-Undecided-clause-undecided g c = λ is.
    undecided meaning (words_of c.args.words.now) _ (_, _) (_, _) refl _ c.in-Ok-Undecided.field-0 c.in-Ok-Undecided.field-0-is
    (attempts_meant c.task_laws.ensures.any (words_of c.args.words.now) _ _ _ _ (Ok c.in-Ok-Undecided.field-0)
    c.in-Ok-Undecided.ensures.outcome)

pub returns-in-Ok-Undecided-clause-others : goal.returns-in-Ok-Undecided-clause-others
returns-in-Ok-Undecided-clause-others g c = others (words_of c.args.words.now) _ _ c.in-Ok-Undecided.ensures.held

pub returns-in-Ok-Undecided-clause-held : goal.returns-in-Ok-Undecided-clause-held
returns-in-Ok-Undecided-clause-held g c = keeps_meant c.task_laws.ensures.any (words_of c.args.words.now) _ _ c.in-Ok-Undecided.ensures.held

pub returns-in-Ok-Undecided-clause-logged : goal.returns-in-Ok-Undecided-clause-logged
returns-in-Ok-Undecided-clause-logged g c = record {
  answered = undecided evidence (words_of c.args.words.now) _ (_, _) (_, _) refl _ c.in-Ok-Undecided.field-0 c.in-Ok-Undecided.field-0-is
      c.in-Ok-Undecided.ensures.outcome;
  held = c.in-Ok-Undecided.ensures.held;
  complete = settled _ (words_of c.args.words.now) (_, _) (_, _) (_, _) (_, _) statuses.Undecided tt;
  due = written c.task_laws.ensures.one _ (words_of c.args.words.now) c.in-Ok-Undecided.field-0 _ (_, _) (_, _) (_, _) (_, _) (_, _)
      statuses.Undecided c.in-Ok-Undecided.ensures.outcome;
}

pub returns-in-Ok-Undecided-clause-due : goal.returns-in-Ok-Undecided-clause-due
returns-in-Ok-Undecided-clause-due g c =
    refusals_due c.task_laws.ensures.none _ (words_of c.args.words.now) (_, _) (_, _) (_, _) (_, _) statuses.Undecided
    (written c.task_laws.ensures.one _ (words_of c.args.words.now) c.in-Ok-Undecided.field-0 _ (_, _) (_, _) (_, _) (_, _) (_, _)
    statuses.Undecided c.in-Ok-Undecided.ensures.outcome)

-- ---- Stale

pub returns-in-Ok-Stale-clause-words : goal.returns-in-Ok-Stale-clause-words
returns-in-Ok-Stale-clause-words g c = λ none. absurd ((c.in-Ok-Stale.ensures.at_once none).0)

pub returns-in-Ok-Stale-clause-stale : goal.returns-in-Ok-Stale-clause-stale
returns-in-Ok-Stale-clause-stale g c = λ is.
    stale meaning (words_of c.args.words.now) _ (_, _) (_, _) refl _ c.in-Ok-Stale.field-0 c.in-Ok-Stale.field-0-is
    (attempts_meant c.task_laws.ensures.any (words_of c.args.words.now) _ _ _ _ (Ok c.in-Ok-Stale.field-0) c.in-Ok-Stale.ensures.outcome)

pub returns-in-Ok-Stale-clause-others : goal.returns-in-Ok-Stale-clause-others
returns-in-Ok-Stale-clause-others g c = others (words_of c.args.words.now) _ _ c.in-Ok-Stale.ensures.held

pub returns-in-Ok-Stale-clause-held : goal.returns-in-Ok-Stale-clause-held
returns-in-Ok-Stale-clause-held g c = keeps_meant c.task_laws.ensures.any (words_of c.args.words.now) _ _ c.in-Ok-Stale.ensures.held

pub returns-in-Ok-Stale-clause-logged : goal.returns-in-Ok-Stale-clause-logged
returns-in-Ok-Stale-clause-logged g c = record {
  answered = stale evidence (words_of c.args.words.now) _ (_, _) (_, _) refl _ c.in-Ok-Stale.field-0 c.in-Ok-Stale.field-0-is
      c.in-Ok-Stale.ensures.outcome;
  held = c.in-Ok-Stale.ensures.held;
  complete = settled _ (words_of c.args.words.now) (_, _) (_, _) (_, _) (_, _) statuses.Stale tt;
  due = written c.task_laws.ensures.one _ (words_of c.args.words.now) c.in-Ok-Stale.field-0 _ (_, _) (_, _) (_, _) (_, _) (_, _)
      statuses.Stale c.in-Ok-Stale.ensures.outcome;
}

pub returns-in-Ok-Stale-clause-due : goal.returns-in-Ok-Stale-clause-due
returns-in-Ok-Stale-clause-due g c =
    refusals_due c.task_laws.ensures.none _ (words_of c.args.words.now) (_, _) (_, _) (_, _) (_, _) statuses.Stale
    (written c.task_laws.ensures.one _ (words_of c.args.words.now) c.in-Ok-Stale.field-0 _ (_, _) (_, _) (_, _) (_, _) (_, _) statuses.Stale
    c.in-Ok-Stale.ensures.outcome)

pub returns-in-Ok-Stale-clause-outdone : goal.returns-in-Ok-Stale-clause-outdone
returns-in-Ok-Stale-clause-outdone g c = λ is.
    shown_stale (words_of c.args.words.now) _ c.in-Ok-Stale.field-0 c.in-Ok-Stale.field-0-is c.in-Ok-Stale.ensures.shown

-- ---- a stop

pub returns-in-Err-clause-words : goal.returns-in-Err-clause-words
returns-in-Err-clause-words g c = λ none.
    let at_once = c.in-Err.ensures.at_once none in
    (at_once.1, at_once.2, at_once.3, at_once.4, at_once.5, reports_words c.in-Err.stop _ _ _ at_once.0 c.report.ensures.reports)

pub returns-in-Err-clause-usage : goal.returns-in-Err-clause-usage
returns-in-Err-clause-usage g c = λ is.
    usage _ (words_of c.args.words.now) c.in-Err.stop (_, _) (_, _) _ c.report.ensures.reports c.in-Err.ensures.follows is

pub returns-in-Err-clause-done : goal.returns-in-Err-clause-done
returns-in-Err-clause-done g c = λ is.
    absurd (unanswered c.in-Err.stop statuses.Done tt (_, _) (_, _) _ c.report.ensures.reports is)

pub returns-in-Err-clause-shown : goal.returns-in-Err-clause-shown
returns-in-Err-clause-shown g c = λ is.
    absurd (unanswered c.in-Err.stop statuses.Done tt (_, _) (_, _) _ c.report.ensures.reports is)

pub returns-in-Err-clause-unsatisfiable : goal.returns-in-Err-clause-unsatisfiable
returns-in-Err-clause-unsatisfiable g c = λ is.
    absurd (unanswered c.in-Err.stop statuses.Unsatisfiable tt (_, _) (_, _) _ c.report.ensures.reports is)

pub returns-in-Err-clause-undecided : goal.returns-in-Err-clause-undecided
returns-in-Err-clause-undecided g c = λ is.
    absurd (unanswered c.in-Err.stop statuses.Undecided tt (_, _) (_, _) _ c.report.ensures.reports is)

pub returns-in-Err-clause-stale : goal.returns-in-Err-clause-stale
returns-in-Err-clause-stale g c = λ is.
    absurd (unanswered c.in-Err.stop statuses.Stale tt (_, _) (_, _) _ c.report.ensures.reports is)

pub returns-in-Err-clause-outdone : goal.returns-in-Err-clause-outdone
returns-in-Err-clause-outdone g c = λ is.
    absurd (unanswered c.in-Err.stop statuses.Stale tt (_, _) (_, _) _ c.report.ensures.reports is)

pub returns-in-Err-clause-refused : goal.returns-in-Err-clause-refused
returns-in-Err-clause-refused g c = λ refuses.
    refused meaning _ (words_of c.args.words.now) c.in-Err.stop _ (_, _) (_, _) (_, _) _
    (attempts_meant c.task_laws.ensures.any (words_of c.args.words.now) _ _ _ _ (Err c.in-Err.stop) c.in-Err.ensures.outcome)
    c.report.ensures.reports refuses

pub returns-in-Err-clause-read_fault : goal.returns-in-Err-clause-read_fault
returns-in-Err-clause-read_fault g c =
    read_fault (words_of c.args.words.now) c.in-Err.stop (_, _) (_, _) (_, _) (_, _) (_, _) _ c.report.ensures.reports
    c.in-Err.ensures.follows c.in-Err.ensures.unread c.in-Err.ensures.unsaid c.in-Err.ensures.read

pub returns-in-Err-clause-write_fault : goal.returns-in-Err-clause-write_fault
returns-in-Err-clause-write_fault g c =
    write_fault meaning (words_of c.args.words.now) c.in-Err.stop (_, _) (_, _) (_, _) (_, _) (_, _) (_, _) _ c.report.ensures.reports
    c.in-Err.ensures.follows (attempts_meant c.task_laws.ensures.any (words_of c.args.words.now) _ _ _ _ (Err c.in-Err.stop)
    c.in-Err.ensures.outcome) c.in-Err.ensures.unsaid
    c.in-Err.ensures.put c.in-Err.ensures.said

pub returns-in-Err-clause-no_memory : goal.returns-in-Err-clause-no_memory
returns-in-Err-clause-no_memory g c =
    no_memory meaning (words_of c.args.words.now) c.in-Err.stop (_, _) (_, _) (_, _) (_, _) (_, _) _ c.report.ensures.reports
    c.in-Err.ensures.follows (attempts_meant c.task_laws.ensures.any (words_of c.args.words.now) _ _ _ _ (Err c.in-Err.stop)
    c.in-Err.ensures.outcome) c.in-Err.ensures.unsaid c.in-Err.ensures.said

pub returns-in-Err-clause-steady : goal.returns-in-Err-clause-steady
returns-in-Err-clause-steady g c =
    steady c.in-Err.stop (_, _) (_, _) (_, _) (_, _) (_, _) _ c.in-Err.ensures.steady c.report.ensures.reports

pub returns-in-Err-clause-others : goal.returns-in-Err-clause-others
returns-in-Err-clause-others g c = others (words_of c.args.words.now) _ _ c.in-Err.ensures.held

pub returns-in-Err-clause-held : goal.returns-in-Err-clause-held
returns-in-Err-clause-held g c = keeps_meant c.task_laws.ensures.any (words_of c.args.words.now) _ _ c.in-Err.ensures.held

pub returns-in-Err-clause-logged : goal.returns-in-Err-clause-logged
returns-in-Err-clause-logged g c = record {
  answered = stopped_shown (words_of c.args.words.now) (_, _) c.in-Err.stop (_, _) (_, _) (_, _) (_, _) (_, _) c.in-Err.ensures.follows
      c.in-Err.ensures.outcome c.in-Err.ensures.unsaid c.in-Err.ensures.put
      c.in-Err.ensures.said _ c.report.ensures.reports;
  held = c.in-Err.ensures.held;
  complete = settles c.task_laws.ensures.one _ (words_of c.args.words.now) c.in-Err.stop _ (_, _) (_, _) (_, _) (_, _) (_, _) (_, _) _
      c.in-Err.ensures.outcome
      (record { read = c.in-Err.ensures.read; put = c.in-Err.ensures.put; said = c.in-Err.ensures.said }) c.report.ensures.reports;
  due = due c.task_laws.ensures.one _ (words_of c.args.words.now) c.in-Err.stop _ (_, _) (_, _) (_, _) (_, _) (_, _) (_, _) _
      c.in-Err.ensures.outcome
      (record { read = c.in-Err.ensures.read; put = c.in-Err.ensures.put; said = c.in-Err.ensures.said }) c.report.ensures.reports;
}

pub returns-in-Err-clause-complete : goal.returns-in-Err-clause-complete
returns-in-Err-clause-complete g c =
    complete c.task_laws.ensures.none _ (words_of c.args.words.now) (_, _) (_, _) (_, _) (_, _) _
    (settles c.task_laws.ensures.one _ (words_of c.args.words.now) c.in-Err.stop _ (_, _) (_, _) (_, _) (_, _) (_, _) (_, _) _
    c.in-Err.ensures.outcome
    (record { read = c.in-Err.ensures.read; put = c.in-Err.ensures.put; said = c.in-Err.ensures.said }) c.report.ensures.reports)

pub returns-in-Err-clause-due : goal.returns-in-Err-clause-due
returns-in-Err-clause-due g c =
    refusals_due c.task_laws.ensures.none _ (words_of c.args.words.now) (_, _) (_, _) (_, _) (_, _) _
    (due c.task_laws.ensures.one _ (words_of c.args.words.now) c.in-Err.stop _ (_, _) (_, _) (_, _) (_, _) (_, _) (_, _) _
    c.in-Err.ensures.outcome
    (record { read = c.in-Err.ensures.read; put = c.in-Err.ensures.put; said = c.in-Err.ensures.said }) c.report.ensures.reports)

pub returns-in-Err-clause-kept : goal.returns-in-Err-clause-kept
returns-in-Err-clause-kept g c =
    keeps_for _ (words_of c.args.words.now) _ (_, _) _ c.in-Err.stop (_, _) (_, _) _ c.in-Err.ensures.kept c.report.ensures.reports
