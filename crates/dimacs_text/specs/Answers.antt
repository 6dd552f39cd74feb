-- What words pose, and what each answer of a run means.
--
-- `files` are the files at entry of a desk that tells them, `words` the words behind the program's
-- name, and `out` and `err` what the two sinks tell before and after.
use Rattle.std.specs.Prelude.{◌≡◌, ◌⊎◌, ℕ, List, ◌∷◌, ◌++◌, Option, Some, None, Result, Ok, Err, codes}
use Rattle.run_answers.specs.Exits.{Spoken}
use Rattle.outside_desk.specs.Files.{Files, and_said}
use Rattle.problem.specs.Problems.{Problem}
use Rattle.problem_encoding.specs.Built.{encoding_of, rule_clauses}
use Rattle.dimacs_text.specs.Clauses.{rules_line}
use Rattle.dimacs_text.specs.Texts.{dimacs_text}
use Rattle.run_input.specs.Inputs.{ReadsInput}
use Rattle.run_input.specs.Refusal.{Refusal}
use Rattle.run_input.specs.Refusals as lines
use Rattle.run_input.specs.Stages.{Is, Then}
use Rattle.run_input.specs.Status.{Status}
use Rattle.run_input.specs.Status.TheVariants as statuses
use Rattle.run_input.specs.Words.{Command, command_of}

-- the text of the one encoding of a problem, in front of which a comment says how many of the
-- clauses are those of the rules
unfoldable pub text_of : Problem → List ℕ
text_of problem = let e = encoding_of problem in rules_line (rule_clauses problem) ++ dimacs_text problem e.clauses e.bits e.table

-- what is read is what `explain` reads that has these words behind it
unfoldable pub explained : List (List ℕ) → List (List ℕ)
explained words = codes "explain" ∷ words

-- what words pose: a text, or the refusal that is due first; or nothing, where they are no command
abbrev pub Posed : Type 0
Posed = Option (Result (List ℕ) Refusal)

-- the text that a command asks for, or the refusal that is due first
abbrev pub Asks : Files → Command → Result (List ℕ) Refusal → Type 0
Asks files command = Then (ReadsInput files command) (λ input. Is (Ok (text_of input.problem)))

-- what the words of a command pose over the files
abbrev pub PosesBy : Files → List (List ℕ) → Posed → Type 0
PosesBy files words None = command_of words ≡ None
PosesBy files words (Some asked) = (command : Command) × (command_of words ≡ Some command) × Asks files command asked

-- what the words behind the program's name pose
abbrev pub Poses : Files → List (List ℕ) → Posed → Type 0
Poses files words = PosesBy files (explained words)

-- ---- what is answered

unfoldable pub usage_line : List ℕ
usage_line = codes "usage: encode_dimacs REPO SETTINGS DATABASE SPEC...\n"

abbrev pub status_of : Posed → Status
status_of None = statuses.Usage
status_of (Some (Ok text)) = statuses.Done
status_of (Some (Err refusal)) = lines.status_of refusal

-- the text was said, and nothing else
abbrev pub SaysText : Spoken → Spoken → Posed → Type 0
SaysText out err None = (out.1 ≡ out.0) × (err.1 ≡ and_said err.0 usage_line)
SaysText out err (Some (Ok text)) = (out.1 ≡ and_said out.0 text) × (err.1 ≡ err.0)
SaysText out err (Some (Err refusal)) = (out.1 ≡ out.0) × (err.1 ≡ and_said err.0 (lines.line_of_refusal refusal))

-- the words pose this, which has the status, and just that was said
pub record IsSaid (files : Files) (words : List (List ℕ)) (out err : Spoken) (status : Status) : Type 0 where
  pub posed : Posed
  pub poses : Poses files words posed
  pub has_status : status ≡ status_of posed
  pub said : SaysText out err posed

-- a device failed, or memory ran out
abbrev pub IsFault : Status → Type 0
IsFault statuses.ReadFault = Unit {0}
IsFault statuses.WriteFault = Unit {0}
IsFault statuses.NoMemory = Unit {0}
IsFault other = ⊥

-- what is posed is answered, and just that was said; or there is a fault
abbrev pub Answers : Files → List (List ℕ) → Spoken → Spoken → Status → Type 0
Answers files words out err status = IsSaid files words out err status ⊎ IsFault status
