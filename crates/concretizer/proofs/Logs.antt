-- What is kept of a search, where a run answered or stopped.
use Rattle.std.proofs.Common.{◌≡◌, inl, inr, sym, subst, ℕ, List, [], Option, Some, None, Result, Ok, Err}
use Rattle.std.specs.Result.{IsErrAnd}
use Rattle.std.specs.Prelude.{IfSome}
use Rattle.run_answers.specs.Exits.{IsRefusalStatus, Spoken}
use Rattle.outside_desk.specs.Files.{Files}
use Rattle.run_output.specs.Certificates.{log_verdict}
use Rattle.run_output.specs.declared.answer.Outcome.{Outcome}
use Rattle.run_output.specs.Kept.{HoldsLog, KeepsAny, KeepsLog}
use Rattle.run_output.specs.Line.{Line}
use Rattle.run_output.specs.ReadStop.TheVariants as reads
use Rattle.run_output.specs.Refusals.{status_of}
use Rattle.run_output.specs.Status.{Status}
use Rattle.run_output.specs.Status.TheVariants as statuses
use Rattle.run_output.specs.Stop.{Stop}
use Rattle.run_output.specs.Stop.TheVariants.{Usage, Read, Write}
use Rattle.run_output.specs.Stops.{Gives, stop_status, stop_line}
use Rattle.run_output.specs.Task.{Task}
use Rattle.run_output.specs.Tasks.{Named}
use Rattle.run_output.specs.Words.{Command, command_of, lock_path, cert_path}
use Rattle.run_output.specs.WriteStop.{WriteStop}
use Rattle.run_output.specs.WriteStop.TheVariants.{Put, Output, NoMemory}
use Rattle.concretizer.specs.Headline.{Reports}
use Rattle.concretizer.specs.Logs.{AttemptKeeps, KeepsFor, MayKeep}
use Rattle.concretizer.proofs.Left.{by_paths, write_carried}
use Rattle.concretizer.proofs.Reported.{refuses}

module _ (words : List (List ℕ)) (command : Command) (lock cert : List ℕ) (task : Task) (kept : List Line) where
  -- of a writing that answered
  pub answered_log : (outcome : Outcome) (before between after : Option Files) (said more : Option (List ℕ))
      → command_of words ≡ Some command
      → IfSome before (λ files. Gives {T = Task} (Ok task) (Named log_verdict files command)) → between ≡ before
      → lock ≡ lock_path words → cert ≡ cert_path words → KeepsAny lock cert task between after said more kept (Ok outcome)
      → IfSome before (λ files. AttemptKeeps files words after (said, more) kept (Ok outcome))
  answered_log outcome None between after said more ordered read same at certified keeps = tt
  answered_log outcome (Some files) between after said more ordered read same at certified keeps = record {
    task = task;
    read = (command, ordered, read);
    keeps = by_paths (λ l c. KeepsLog l c task outcome (Some files) after said more kept) lock cert (lock_path words)
        (cert_path words) at certified
        (subst (λ (m : Option Files). KeepsLog lock cert task outcome m after said more kept) same keeps);
  }

  found : (files : Files) → command_of words ≡ Some command → Gives {T = Task} (Ok task) (Named log_verdict files command)
      → HoldsLog task kept
      → MayKeep files words kept
  found files ordered read holds = inr (record { task = task; read = (command, ordered, read); holds = holds })

  stopped_here : (stop : WriteStop) (files : Files) (between after : Option Files) (said more : Option (List ℕ))
      → command_of words ≡ Some command
      → Gives {T = Task} (Ok task) (Named log_verdict files command) → KeepsAny lock cert task between after said more kept (Err stop)
      → MayKeep files words kept
  stopped_here (Put at) files between after said more ordered read keeps = found files ordered read keeps
  stopped_here Output files between after said more ordered read keeps = found files ordered read keeps
  stopped_here NoMemory files between after said more ordered read (inl empty) = inl empty
  stopped_here NoMemory files between after said more ordered read (inr holds) = found files ordered read holds

  -- of one that stopped
  pub stopped_log : (stop : WriteStop) (result : Result Outcome Stop) (before between after : Option Files) (said more : Option (List ℕ))
      → IsErrAnd result (λ given. given ≡ Write stop) → command_of words ≡ Some command
      → IfSome before (λ files. Gives {T = Task} (Ok task) (Named log_verdict files command)) → between ≡ before
      → lock ≡ lock_path words → cert ≡ cert_path words → KeepsAny lock cert task between after said more kept (Err stop)
      → IfSome before (λ files. AttemptKeeps files words after (said, more) kept result)
  stopped_log stop result None between after said more is ordered read same at certified keeps = tt
  stopped_log stop result (Some files) between after said more is ordered read same at certified keeps =
      rw (write_carried stop result is) (stopped_here stop files between after said more ordered read keeps)

-- ---- by the answer

module _ (files : Files) (words : List (List ℕ)) (after : Option Files) (out : Spoken) (kept : List Line) where
  may_keep : (stop : Stop) → AttemptKeeps files words after out kept (Err stop) → MayKeep files words kept
  may_keep Usage keeps = inl keeps
  may_keep (Read stop) keeps = inl keeps
  may_keep (Write stop) keeps = keeps

  of_refusal : (status : Status) → IsRefusalStatus status → kept ≡ [] → KeepsFor status files words after out kept
  of_refusal statuses.Done refuses empty = absurd refuses
  of_refusal statuses.Unsatisfiable refuses empty = absurd refuses
  of_refusal statuses.Usage refuses empty = absurd refuses
  of_refusal statuses.Undecided refuses empty = absurd refuses
  of_refusal statuses.Stale refuses empty = absurd refuses
  of_refusal statuses.BadInput refuses empty = empty
  of_refusal statuses.ReadFault refuses empty = empty
  of_refusal statuses.WriteFault refuses empty = absurd refuses
  of_refusal statuses.TooLarge refuses empty = empty
  of_refusal statuses.Refused refuses empty = empty
  of_refusal statuses.NoMemory refuses empty = absurd refuses

  of_stop : (stop : Stop) → AttemptKeeps files words after out kept (Err stop) → KeepsFor (stop_status stop) files words after out kept
  of_stop Usage keeps = keeps
  of_stop (Read (reads.Refused refusal)) keeps = of_refusal (status_of refusal) (refuses refusal) keeps
  of_stop (Read (reads.Fault path)) keeps = keeps
  of_stop (Read reads.NoMemory) keeps = inl keeps
  of_stop (Write (Put path)) keeps = keeps
  of_stop (Write Output) keeps = keeps
  of_stop (Write NoMemory) keeps = keeps

  here : (stop : Stop) (err : Spoken) (errs : ℕ × ℕ) (result : Status) → AttemptKeeps files words after out kept (Err stop)
      → Reports (stop_status stop) (stop_line stop) err errs result → KeepsFor result files words after out kept
  here stop err errs result keeps (inl (is, said, steady)) =
      subst (λ (s : Status). KeepsFor s files words after out kept) (sym is) (of_stop stop keeps)
  here stop err errs result keeps (inr (inl (is, front, late))) = rw is (may_keep stop keeps)
  here stop err errs result keeps (inr (inr (is, silent))) = rw is (may_keep stop keeps)

-- what is kept of a run that stopped
pub keeps_for : (before : Option Files) (words : List (List ℕ)) (after : Option Files) (out : Spoken) (kept : List Line) (stop : Stop)
    (err : Spoken) (errs : ℕ × ℕ) (result : Status) → IfSome before (λ files. AttemptKeeps files words after out kept (Err stop))
    → Reports (stop_status stop) (stop_line stop) err errs result → IfSome before (λ files. KeepsFor result files words after out kept)
keeps_for None words after out kept stop err errs result keeps reports = tt
keeps_for (Some files) words after out kept stop err errs result keeps reports =
    here files words after out kept stop err errs result keeps reports
