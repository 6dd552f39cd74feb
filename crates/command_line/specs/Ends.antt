-- What the process ends with.
--
-- `files`, and the counts of faults of readings (`reads`), of puts (`puts`), of the sink of the
-- answer (`says`) and of that of the report (`errs`) are those that the devices tell before and
-- after; `out` and `err` is what these two sinks tell of what was said.
use Rattle.std.specs.Prelude.{◌≡◌, ◌⊎◌, ℕ, ◌≤◌, List, Option, None, Ok, Err, IfSome}
use Rattle.std.specs.declared.io.ErrorKind.{ErrorKind}
use Rattle.std.specs.declared.io.ErrorKind.TheVariants as kinds
use Rattle.outside_desk.specs.Causes.{Rose}
use Rattle.outside_desk.specs.Files.{Files}
use Rattle.run_output.specs.CertificateVerdicts.{no_verdict}
use Rattle.run_output.specs.Exits.{IsAnsweredBy, IsRefusalStatus, IsSilent, Says, SaysFront, Spoken, number_of}
use Rattle.run_output.specs.Line.{Line}
use Rattle.run_output.specs.Refusal.{Refusal}
use Rattle.run_output.specs.Refusals.{status_of}
use Rattle.run_output.specs.Senses.{meaning}
use Rattle.run_output.specs.Status.{Status}
use Rattle.run_output.specs.Status.TheVariants as statuses
use Rattle.run_output.specs.Stops.{no_memory_line, output_fault_line}
use Rattle.run_output.specs.Task.{Task}
use Rattle.run_output.specs.Tasks.{Poses}
use Rattle.run_output.specs.Words.{command_of}
use Rattle.concretizer.specs.Asked.{ChangesOnly}
use Rattle.concretizer.specs.Headline.{HasOutdone, HasShown, IsDone, IsOfInput, IsOutOfMemory, IsOutdated, IsReadFault, IsRefused, IsUndecided, IsUnsatisfiable, IsWriteFault, Keeps, Reports, ReportsWords, Settles}
use Rattle.concretizer.specs.Logs.{IsLogged, KeepsFor}

-- ---- what `run` promises of its answer

-- Each field is the clause of `run` that has its name, over what the devices tell.
pub record IsAnswered (words : List (List ℕ)) (files : Option Files × Option Files) (reads puts says errs : ℕ × ℕ) (out err : Spoken)
    (kept : List Line) (status : Status) : Type 0 where
  pub no_command : command_of words ≡ None → (files.1 ≡ files.0) × (out.1 ≡ out.0) × (reads.1 ≡ reads.0) × (puts.1 ≡ puts.0)
      × (says.1 ≡ says.0) × ReportsWords err errs status
  pub usage : status ≡ statuses.Usage → command_of words ≡ None
  pub done : status ≡ statuses.Done → IfSome files.0 (λ before. IsDone meaning before words files.1 out err)
  pub shown : status ≡ statuses.Done → IfSome files.0 (λ before. HasShown before words)
  pub unsatisfiable : status ≡ statuses.Unsatisfiable → IfSome files.0 (λ before. IsUnsatisfiable meaning before words files.1 out err)
  pub undecided : status ≡ statuses.Undecided → IfSome files.0 (λ before. IsUndecided meaning before words files.1 out err)
  pub stale : status ≡ statuses.Stale → IfSome files.0 (λ before. IsOutdated meaning before words files.1 out err)
  pub outdone : status ≡ statuses.Stale → IfSome files.0 (λ before. HasOutdone before words)
  pub refused : IsRefusalStatus status → IfSome files.0 (λ before. IsRefused meaning before words status files.1 out err)
  pub read_fault : status ≡ statuses.ReadFault → IsReadFault words reads files out err
  pub write_fault : status ≡ statuses.WriteFault → IsWriteFault meaning words files puts says errs out err
  pub no_memory : status ≡ statuses.NoMemory → IsOutOfMemory meaning words files says out err
  pub steady : IsOfInput status → (reads.1 ≡ reads.0) × (puts.1 ≡ puts.0) × (says.1 ≡ says.0) × (errs.1 ≡ errs.0)
  pub others : IfSome files.0 (λ before. ChangesOnly words before files.1)
  pub held : IfSome files.0 (λ before. Keeps meaning before words files.1)
  pub logged : IsLogged words files reads puts says errs out err status
  pub keeps : IfSome files.0 (λ before. KeepsFor status before words files.1 out kept)
  pub complete : IfSome files.0 (λ before. (task : Task) → Poses no_verdict before words (Ok task)
      → ¬ Rose reads.0 reads.1 → ¬ Rose puts.0 puts.1 → ¬ Rose says.0 says.1 → ¬ Rose errs.0 errs.1 → Settles status)
  pub due : IfSome files.0 (λ before. (refusal : Refusal) → Poses no_verdict before words (Err refusal)
      → ¬ Rose reads.0 reads.1 → ¬ Rose puts.0 puts.1 → ¬ Rose says.0 says.1 → ¬ Rose errs.0 errs.1
      → IsAnsweredBy (status_of refusal) status)
  pub counts : (reads.0 ≤ reads.1) × (puts.0 ≤ puts.1) × (says.0 ≤ says.1) × (errs.0 ≤ errs.1)

-- ---- what the process ends with

-- the number of the answer of a run
pub record EndsRun (words : List (List ℕ)) (files : Option Files × Option Files) (reads puts says errs : ℕ × ℕ) (out err : Spoken)
    (kept : List Line) (number : ℕ) : Type 0 where
  pub status : Status
  pub ends : number ≡ number_of status
  pub answered : IsAnswered words files reads puts says errs out err kept status

-- a text that was asked for alone: it was said, and nothing else; or the sink of the answer failed
-- behind a front of it, or had no memory, and that is reported
abbrev pub TellsOwn : List ℕ → ℕ × ℕ → ℕ × ℕ → Spoken → Spoken → Status → Type 0
TellsOwn text says errs out err status =
    ((status ≡ statuses.Done) × Says out text × (says.1 ≡ says.0) × IsSilent err × (errs.1 ≡ errs.0))
    ⊎ ((SaysFront out text × Rose says.0 says.1 × Reports statuses.WriteFault output_fault_line err errs status)
    ⊎ (IsSilent out × (says.1 ≡ says.0) × Reports statuses.NoMemory no_memory_line err errs status))

pub record EndsOwn (text : List ℕ) (says errs : ℕ × ℕ) (out err : Spoken) (number : ℕ) : Type 0 where
  pub status : Status
  pub ends : number ≡ number_of status
  pub tells : TellsOwn text says errs out err status

-- the system refused the words: want of memory has its own number, and any other cause one that no
-- answer has
abbrev pub number_without_words : ErrorKind → ℕ
number_without_words kinds.OutOfMemory = number_of statuses.NoMemory
number_without_words _ = 10

-- two answers do not end with one number, and none with that of words that the system refused
abbrev pub IsToldApart : Type 0
IsToldApart = ((one other : Status) → number_of one ≡ number_of other → one ≡ other) × ((status : Status) → ¬ (number_of status ≡ 10))
