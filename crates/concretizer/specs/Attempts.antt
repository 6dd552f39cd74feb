-- What reading the task and writing its answer leave.
use Rattle.std.specs.Prelude.{◌≡◌, ℕ, List, Option, Some, None, Result, Ok, Err}
use Rattle.outside_desk.specs.Files.{Files}
use Rattle.run_output.specs.Answers.{Writes}
use Rattle.run_output.specs.declared.answer.Outcome.{Outcome}
use Rattle.run_output.specs.Senses.{Sense}
use Rattle.run_output.specs.Words.{command_of, lock_path, cert_path}
use Rattle.run_output.specs.Task.{Task}
use Rattle.run_output.specs.Tasks.{Poses}
use Rattle.run_output.specs.ReadStop.TheVariants as reads
use Rattle.run_output.specs.WriteStop.{WriteStop}
use Rattle.run_output.specs.WriteStop.TheVariants as writes
use Rattle.run_output.specs.Stop.{Stop}
use Rattle.run_output.specs.Stop.TheVariants.{Usage, Read, Write}
use Rattle.concretizer.specs.Asked.{IsAsked, IsLocking, IsPutPath, IsRead}

-- ---- for a desk that tells its files

-- reading gave a task, and writing left this
pub record IsWritten (sense : Sense) (files : Files) (words : List (List ℕ)) (after : Option Files) (out_before out_after : Option (List ℕ))
    (result : Result Outcome WriteStop) : Type 0 where
  pub task : Task
  pub read : Poses sense.verdicts files words (Ok task)
  pub left : Writes sense (lock_path words) (cert_path words) task (Some files) after out_before out_after result

-- nothing was written
pub record IsUnwritten (files : Files) (after : Option Files) (out_before out_after : Option (List ℕ)) : Type 0 where
  pub unchanged : after ≡ Some files
  pub out : out_after ≡ out_before

abbrev pub Attempts : Sense → Files → List (List ℕ) → Option Files → Option (List ℕ) → Option (List ℕ) → Result Outcome Stop → Type 0
Attempts sense files words after out_before out_after (Ok outcome) = IsWritten sense files words after out_before out_after (Ok outcome)
Attempts sense files words after out_before out_after (Err Usage) = (command_of words ≡ None)
    × IsUnwritten files after out_before out_after
Attempts sense files words after out_before out_after (Err (Read (reads.Refused refusal))) = Poses sense.verdicts files words (Err refusal)
    × IsUnwritten files after out_before out_after
Attempts sense files words after out_before out_after (Err (Read (reads.Fault path))) = IsUnwritten files after out_before out_after
Attempts sense files words after out_before out_after (Err (Read reads.NoMemory)) = IsUnwritten files after out_before out_after
Attempts sense files words after out_before out_after (Err (Write stop)) = IsWritten sense files words after out_before out_after (Err stop)

-- ---- for any desk

-- what the words say of how an attempt ended, and where the desk tells its files, what these say of
-- what was read
abbrev pub Follows : Option Files → List (List ℕ) → Result Outcome Stop → Type 0
Follows told words (Ok outcome) = IsAsked words
Follows told words (Err Usage) = command_of words ≡ None
Follows told words (Err (Read (reads.Fault path))) = IsRead told words path
Follows told words (Err (Write (writes.Put path))) = IsLocking words × IsPutPath words path
Follows told words (Err (Write writes.Output)) = IsAsked words
Follows told words other = Unit {0}

-- the words are no command, or memory ran out over them
abbrev pub StopsAtOnce : Result Outcome Stop → Type 0
StopsAtOnce (Err Usage) = Unit {0}
StopsAtOnce (Err (Read reads.NoMemory)) = Unit {0}
StopsAtOnce other = ⊥

-- the device that made an attempt fail
abbrev pub FailsToRead : Result Outcome Stop → Type 0
FailsToRead (Err (Read (reads.Fault path))) = Unit {0}
FailsToRead other = ⊥

abbrev pub FailsToPut : Result Outcome Stop → Type 0
FailsToPut (Err (Write (writes.Put path))) = Unit {0}
FailsToPut other = ⊥

abbrev pub FailsToSay : Result Outcome Stop → Type 0
FailsToSay (Err (Write writes.Output)) = Unit {0}
FailsToSay other = ⊥

-- an attempt that came to an answer, or to a refusal
abbrev pub Concludes : Result Outcome Stop → Type 0
Concludes (Ok outcome) = Unit {0}
Concludes (Err Usage) = Unit {0}
Concludes (Err (Read (reads.Refused refusal))) = Unit {0}
Concludes other = ⊥

-- one that stopped before anything of an answer was said
abbrev pub StopsBefore : Result Outcome Stop → Type 0
StopsBefore (Ok outcome) = ⊥
StopsBefore (Err (Write writes.Output)) = ⊥
StopsBefore other = Unit {0}
