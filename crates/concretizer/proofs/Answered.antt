-- What is said of an attempt that answered, and of one that stopped, in one sense or the other.
use Rattle.std.proofs.Common.{◌≡◌, refl, subst, ℕ, List, Option, Some, None, Ok, Err}
use Rattle.std.specs.Prelude.{IfSome}
use Rattle.run_answers.specs.Exits.{IsSilent, Spoken}
use Rattle.outside_desk.specs.Causes.{Counts}
use Rattle.outside_desk.specs.Files.{Files}
use Rattle.run_output.specs.Evidence.{evidence}
use Rattle.run_output.specs.Senses.{Sense}
use Rattle.run_output.specs.Status.{Status}
use Rattle.run_output.specs.Status.TheVariants as statuses
use Rattle.run_output.specs.Stop.{Stop}
use Rattle.run_output.specs.Stops.{stop_status, stop_line}
use Rattle.run_output.specs.declared.answer.Outcome.{Outcome}
use Rattle.run_output.specs.declared.answer.Outcome.TheVariants.{Solved, Unsolved, Undecided, Stale}
use Rattle.concretizer.specs.Attempts.{Attempts, Follows, StopsBefore, FailsToPut, FailsToSay}
use Rattle.concretizer.specs.Headline.{IsDone, IsOutdated, IsUndecided, IsUnsatisfiable, Reports}
use Rattle.concretizer.specs.Logs.{IsShownByLogs}
use Rattle.concretizer.proofs.Ends.{refused}
use Rattle.concretizer.proofs.Faults.{write_fault, no_memory}
use Rattle.concretizer.proofs.Reported.{unanswered}

module _ (sense : Sense) (words : List (List ℕ)) (after : Option Files) (out err : Spoken) (silent : IsSilent err) where
  -- the attempt came to this
  came : (before : Option Files) (outcome end : Outcome) → outcome ≡ end
      → IfSome before (λ files. Attempts sense files words after out.0 out.1 (Ok outcome))
      → IfSome before (λ files. Attempts sense files words after out.0 out.1 (Ok end))
  came before outcome end same left =
      subst (λ (o : Outcome). IfSome before (λ files. Attempts sense files words after out.0 out.1 (Ok o))) same left

  solved : (before : Option Files) → IfSome before (λ files. Attempts sense files words after out.0 out.1 (Ok Solved))
      → IfSome before (λ files. IsDone sense files words after out err)
  solved None left = tt
  solved (Some files) left = record { task = left.task; read = left.read; finished = left.left; errors = silent }

  unsolved : (before : Option Files) → IfSome before (λ files. Attempts sense files words after out.0 out.1 (Ok Unsolved))
      → IfSome before (λ files. IsUnsatisfiable sense files words after out err)
  unsolved None left = tt
  unsolved (Some files) left = record { task = left.task; read = left.read; none = left.left; errors = silent }

  spent : (before : Option Files) → IfSome before (λ files. Attempts sense files words after out.0 out.1 (Ok Undecided))
      → IfSome before (λ files. IsUndecided sense files words after out err)
  spent None left = tt
  spent (Some files) left = record { task = left.task; read = left.read; spent = left.left; errors = silent }

  outdated : (before : Option Files) → IfSome before (λ files. Attempts sense files words after out.0 out.1 (Ok Stale))
      → IfSome before (λ files. IsOutdated sense files words after out err)
  outdated None left = tt
  outdated (Some files) left = record { task = left.task; read = left.read; better = left.left; errors = silent }

  -- Done
  pub done : (before : Option Files) (outcome : Outcome) → outcome ≡ Solved
      → IfSome before (λ files. Attempts sense files words after out.0 out.1 (Ok outcome))
      → IfSome before (λ files. IsDone sense files words after out err)
  done before outcome same left = solved before (came before outcome Solved same left)

  -- Unsatisfiable
  pub unsatisfiable : (before : Option Files) (outcome : Outcome) → outcome ≡ Unsolved
      → IfSome before (λ files. Attempts sense files words after out.0 out.1 (Ok outcome))
      → IfSome before (λ files. IsUnsatisfiable sense files words after out err)
  unsatisfiable before outcome same left = unsolved before (came before outcome Unsolved same left)

  -- Undecided
  pub undecided : (before : Option Files) (outcome : Outcome) → outcome ≡ Undecided
      → IfSome before (λ files. Attempts sense files words after out.0 out.1 (Ok outcome))
      → IfSome before (λ files. IsUndecided sense files words after out err)
  undecided before outcome same left = spent before (came before outcome Undecided same left)

  -- Stale
  pub stale : (before : Option Files) (outcome : Outcome) → outcome ≡ Stale
      → IfSome before (λ files. Attempts sense files words after out.0 out.1 (Ok outcome))
      → IfSome before (λ files. IsOutdated sense files words after out err)
  stale before outcome same left = outdated before (came before outcome Stale same left)

module _ (words : List (List ℕ)) (files : Option Files × Option Files) (stop : Stop) (puts says errs : ℕ × ℕ) (out err : Spoken)
    (follows : Follows files.0 words (Err stop))
    (left : IfSome files.0 (λ before. Attempts evidence before words files.1 out.0 out.1 (Err stop)))
    (unsaid : StopsBefore (Err stop) → out.1 ≡ out.0) (put : Counts puts.0 puts.1 (FailsToPut (Err stop)))
    (said : Counts says.0 says.1 (FailsToSay (Err stop))) where
  -- a stop, by the status that was reported
  pub stopped_shown : (result : Status) → Reports (stop_status stop) (stop_line stop) err errs result
      → IsShownByLogs result words files puts says errs out err
  stopped_shown statuses.Done reports = absurd (unanswered stop statuses.Done tt err errs statuses.Done reports refl)
  stopped_shown statuses.Unsatisfiable reports =
      absurd (unanswered stop statuses.Unsatisfiable tt err errs statuses.Unsatisfiable reports refl)
  stopped_shown statuses.Undecided reports = absurd (unanswered stop statuses.Undecided tt err errs statuses.Undecided reports refl)
  stopped_shown statuses.Stale reports = absurd (unanswered stop statuses.Stale tt err errs statuses.Stale reports refl)
  stopped_shown statuses.ReadFault reports = tt
  stopped_shown statuses.WriteFault reports =
      write_fault evidence words stop puts says files out err errs statuses.WriteFault reports follows left unsaid put said refl
  stopped_shown statuses.NoMemory reports =
      no_memory evidence words stop says files out err errs statuses.NoMemory reports follows left unsaid said refl
  stopped_shown statuses.Usage reports = tt
  stopped_shown statuses.BadInput reports = refused evidence files.0 words stop files.1 out err errs statuses.BadInput left reports tt
  stopped_shown statuses.TooLarge reports = refused evidence files.0 words stop files.1 out err errs statuses.TooLarge left reports tt
  stopped_shown statuses.Refused reports = refused evidence files.0 words stop files.1 out err errs statuses.Refused left reports tt
