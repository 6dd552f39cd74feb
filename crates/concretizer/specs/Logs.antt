-- What is shown by logs, and what is kept of the search of a run: its log.
use Rattle.std.specs.Prelude.{◌≡◌, ◌⊎◌, ℕ, List, [], Option, Some, Result, Ok, Err, IfSome}
use Rattle.run_answers.specs.Exits.{IsAnsweredBy, Spoken}
use Rattle.outside_desk.specs.Causes.{Rose}
use Rattle.outside_desk.specs.Files.{Files}
use Rattle.run_output.specs.Kept.{HoldsLog, KeepsLog}
use Rattle.run_output.specs.Line.{Line}
use Rattle.run_output.specs.Certificates.{log_verdict}
use Rattle.run_output.specs.Evidence.{evidence}
use Rattle.run_output.specs.Refusal.{Refusal}
use Rattle.run_output.specs.Refusals.{status_of}
use Rattle.run_output.specs.declared.answer.Outcome.{Outcome}
use Rattle.run_output.specs.declared.answer.Outcome.TheVariants as outcomes
use Rattle.run_output.specs.Status.{Status}
use Rattle.run_output.specs.Status.TheVariants as statuses
use Rattle.run_output.specs.Stop.{Stop}
use Rattle.run_output.specs.Stop.TheVariants.{Usage, Read, Write}
use Rattle.run_output.specs.Task.{Task}
use Rattle.run_output.specs.Tasks.{Poses}
use Rattle.run_output.specs.Words.{lock_path, cert_path}
use Rattle.concretizer.specs.Headline.{IsDone, IsOutOfMemory, IsOutdated, IsRefused, IsUndecided, IsUnsatisfiable, IsWriteFault, Keeps, Settles}

-- ---- what is shown

-- what an answer says, as the logs show it: of those that were made, and of those that are read
abbrev pub IsShownByLogs : Status → List (List ℕ) → Option Files × Option Files → ℕ × ℕ → ℕ × ℕ → ℕ × ℕ → Spoken → Spoken → Type 0
IsShownByLogs statuses.Done words files puts says errs out err = IfSome files.0 (λ before. IsDone evidence before words files.1 out err)
IsShownByLogs statuses.Unsatisfiable words files puts says errs out err =
    IfSome files.0 (λ before. IsUnsatisfiable evidence before words files.1 out err)
IsShownByLogs statuses.Undecided words files puts says errs out err =
    IfSome files.0 (λ before. IsUndecided evidence before words files.1 out err)
IsShownByLogs statuses.Stale words files puts says errs out err =
    IfSome files.0 (λ before. IsOutdated evidence before words files.1 out err)
IsShownByLogs statuses.Usage words files puts says errs out err = Unit {0}
IsShownByLogs statuses.ReadFault words files puts says errs out err = Unit {0}
IsShownByLogs statuses.WriteFault words files puts says errs out err = IsWriteFault evidence words files puts says errs out err
IsShownByLogs statuses.NoMemory words files puts says errs out err = IsOutOfMemory evidence words files says out err
IsShownByLogs refused words files puts says errs out err =
    IfSome files.0 (λ before. IsRefused evidence before words refused files.1 out err)

-- no device failed
pub record AreStill (reads puts says errs : ℕ × ℕ) : Type 0 where
  pub read : ¬ Rose reads.0 reads.1
  pub put : ¬ Rose puts.0 puts.1
  pub said : ¬ Rose says.0 says.1
  pub err : ¬ Rose errs.0 errs.1

-- All that the headline says of answers, of refusals and of files, where besides each answer is one
-- that its log shows over clauses of the problem, and where a certificate that is read is right
-- exactly as its log says
pub record IsLogged (words : List (List ℕ)) (files : Option Files × Option Files) (reads puts says errs : ℕ × ℕ) (out err : Spoken)
    (answer : Status) : Type 0 where
  pub answered : IsShownByLogs answer words files puts says errs out err
  pub held : IfSome files.0 (λ before. Keeps evidence before words files.1)
  pub complete : IfSome files.0 (λ before. (task : Task) → Poses log_verdict before words (Ok task) → AreStill reads puts says errs
      → Settles answer)
  pub due : IfSome files.0 (λ before. (refusal : Refusal) → Poses log_verdict before words (Err refusal) → AreStill reads puts says errs
      → IsAnsweredBy (status_of refusal) answer)

-- ---- what is kept

-- what is kept of a run that came to this: the log of the answer whose files were put, of `each`
-- that of the first root without a graph, or of the trial whose counts were said; the log that what
-- `explain` said rests on: a refutation, or one that spent the budget; the log that left `reasons`
-- undecided, which spent the budget over the clauses of the demands that were said; of other
-- commands no line
pub record HasKept (files : Files) (words : List (List ℕ)) (outcome : Outcome) (after : Option Files) (out : Spoken)
    (kept : List Line) : Type 0 where
  pub task : Task
  pub read : Poses log_verdict files words (Ok task)
  pub keeps : KeepsLog (lock_path words) (cert_path words) task outcome (Some files) after out.0 out.1 kept

-- what is kept of a run that stopped: no line, or the log of an answer that was found before
pub record HasFound (files : Files) (words : List (List ℕ)) (kept : List Line) : Type 0 where
  pub task : Task
  pub read : Poses log_verdict files words (Ok task)
  pub holds : HoldsLog task kept

abbrev pub MayKeep : Files → List (List ℕ) → List Line → Type 0
MayKeep files words kept = (kept ≡ []) ⊎ HasFound files words kept

-- what is kept, by the answer
abbrev pub KeepsFor : Status → Files → List (List ℕ) → Option Files → Spoken → List Line → Type 0
KeepsFor statuses.Done files words after out kept = HasKept files words outcomes.Solved after out kept
KeepsFor statuses.Unsatisfiable files words after out kept = HasKept files words outcomes.Unsolved after out kept
KeepsFor statuses.Undecided files words after out kept = HasKept files words outcomes.Undecided after out kept
KeepsFor statuses.Stale files words after out kept = HasKept files words outcomes.Stale after out kept
KeepsFor statuses.WriteFault files words after out kept = MayKeep files words kept
KeepsFor statuses.NoMemory files words after out kept = MayKeep files words kept
KeepsFor other files words after out kept = kept ≡ []

-- what an attempt keeps of a search
abbrev pub AttemptKeeps : Files → List (List ℕ) → Option Files → Spoken → List Line → Result Outcome Stop → Type 0
AttemptKeeps files words after out kept (Ok outcome) = HasKept files words outcome after out kept
AttemptKeeps files words after out kept (Err Usage) = kept ≡ []
AttemptKeeps files words after out kept (Err (Read stop)) = kept ≡ []
AttemptKeeps files words after out kept (Err (Write stop)) = MayKeep files words kept
