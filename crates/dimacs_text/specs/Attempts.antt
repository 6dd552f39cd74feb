-- What reading a problem and saying its encoding leave.
use Rattle.std.specs.Prelude.{◌≡◌, ◌⊎◌, ℕ, List, Option, Some, None, Result, Ok, Err}
use Rattle.run_answers.specs.Exits.{Spoken}
use Rattle.outside_desk.specs.Causes.{Rose}
use Rattle.outside_desk.specs.Files.{Files, and_said, SaysPart}
use Rattle.run_input.specs.Inputs.{IsInputPath}
use Rattle.run_input.specs.ReadStop.TheVariants as reads
use Rattle.run_input.specs.Status.{Status}
use Rattle.run_input.specs.Status.TheVariants as statuses
use Rattle.run_input.specs.Stop.{Stop}
use Rattle.run_input.specs.Stop.TheVariants.{Usage, Read, Write}
use Rattle.run_input.specs.Stops as stops
use Rattle.run_input.specs.WriteStop.TheVariants as writes
use Rattle.run_input.specs.Words.{Command, command_of}
use Rattle.dimacs_text.specs.Answers.{Asks, PosesBy, usage_line}

-- ---- for a desk that tells its files

-- what was said of a text: where the sink failed a front of it
abbrev pub SaysAll : List ℕ → Option (List ℕ) → Option (List ℕ) → Result (Unit {0}) Stop → Type 0
SaysAll text before after (Ok done) = after ≡ and_said before text
SaysAll text before after (Err (Write writes.Output)) = SaysPart before after text
SaysAll text before after (Err (Write writes.NoMemory)) = after ≡ before
SaysAll text before after (Err other) = ⊥

-- the words ask for a text, of which this was said; the words are those of the command
pub record IsWritten (files : Files) (words : List (List ℕ)) (before after : Option (List ℕ))
    (result : Result (Unit {0}) Stop) : Type 0 where
  pub text : List ℕ
  pub poses : PosesBy files words (Some (Ok text))
  pub said : SaysAll text before after result

-- how an attempt of a command ended
abbrev pub AttemptsBy : Files → Command → Option (List ℕ) → Option (List ℕ) → Result (Unit {0}) Stop → Type 0
AttemptsBy files command before after (Err Usage) = ⊥
AttemptsBy files command before after (Err (Read (reads.Refused refusal))) = Asks files command (Err refusal) × (after ≡ before)
AttemptsBy files command before after (Err (Read (reads.Fault path))) = after ≡ before
AttemptsBy files command before after (Err (Read reads.NoMemory)) = after ≡ before
AttemptsBy files command before after written = (text : List ℕ) × Asks files command (Ok text) × SaysAll text before after written

-- how an attempt ended: the text was said, or stopped to be, or a refusal was due, or reading
-- stopped; where it did nothing was said
abbrev pub Attempts : Files → List (List ℕ) → Option (List ℕ) → Option (List ℕ) → Result (Unit {0}) Stop → Type 0
Attempts files words before after (Err Usage) = PosesBy files words None × (after ≡ before)
Attempts files words before after (Err (Read (reads.Refused refusal))) = PosesBy files words (Some (Err refusal)) × (after ≡ before)
Attempts files words before after (Err (Read (reads.Fault path))) = after ≡ before
Attempts files words before after (Err (Read reads.NoMemory)) = after ≡ before
Attempts files words before after written = IsWritten files words before after written

-- ---- for any desk

-- the words are a command that reads a file or folder at the path; where the desk tells its files,
-- of recipes those that the folder of packages names, and each path only behind what is read before
-- it
pub record IsRead (told : Option Files) (words : List (List ℕ)) (path : List ℕ) : Type 0 where
  pub command : Command
  pub named : command_of words ≡ Some command
  pub inside : IsInputPath told command path

-- a device failed only while such a path was read
abbrev pub FollowsBy : Option Files → Command → Result (Unit {0}) Stop → Type 0
FollowsBy told command (Err (Read (reads.Fault path))) = IsInputPath told command path
FollowsBy told command other = Unit {0}

abbrev pub Follows : Option Files → List (List ℕ) → Result (Unit {0}) Stop → Type 0
Follows told words (Err (Read (reads.Fault path))) = IsRead told words path
Follows told words other = Unit {0}

-- the device that made an attempt fail; files are never put
abbrev pub FailsToRead : Result (Unit {0}) Stop → Type 0
FailsToRead (Err (Read (reads.Fault path))) = Unit {0}
FailsToRead other = ⊥

abbrev pub FailsToPut : Result (Unit {0}) Stop → Type 0
FailsToPut (Err (Write (writes.Put path))) = Unit {0}
FailsToPut other = ⊥

abbrev pub FailsToSay : Result (Unit {0}) Stop → Type 0
FailsToSay (Err (Write writes.Output)) = Unit {0}
FailsToSay other = ⊥

-- an attempt that came to its text, or to a refusal
abbrev pub Concludes : Result (Unit {0}) Stop → Type 0
Concludes (Ok done) = Unit {0}
Concludes (Err Usage) = Unit {0}
Concludes (Err (Read (reads.Refused refusal))) = Unit {0}
Concludes other = ⊥

-- one that stopped before anything was said
abbrev pub StopsBefore : Result (Unit {0}) Stop → Type 0
StopsBefore (Ok done) = ⊥
StopsBefore (Err (Write writes.Output)) = ⊥
StopsBefore other = Unit {0}

-- ---- the report

-- the line of a stop: of wrong words it is the program's own
abbrev pub line_of : Stop → List ℕ
line_of Usage = usage_line
line_of other = stops.stop_line other

-- what is said of a stop, and answered: its status with its line, and the sink did not fail; or
-- WriteFault, where it did, with a front of the line; or NoMemory, with nothing said
abbrev pub Reports : Stop → Spoken → ℕ × ℕ → Status → Type 0
Reports stop said faults result =
    ((result ≡ stops.stop_status stop) × (said.1 ≡ and_said said.0 (line_of stop)) × (faults.1 ≡ faults.0))
    ⊎ (((result ≡ statuses.WriteFault) × SaysPart said.0 said.1 (line_of stop) × Rose faults.0 faults.1)
    ⊎ ((result ≡ statuses.NoMemory) × (said.1 ≡ said.0)))
