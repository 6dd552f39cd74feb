-- Where the reading of a certificate stands, and what one piece more leaves.
use Rattle.std.specs.Prelude.{◌≡◌, ℕ, ◌<◌, ◌≤◌, Bool, true, false, List, take, Option, None, IsSomeAnd, Result, Ok, Err}
use Rattle.log_checker.specs.Steps.{CheckerState}
use Rattle.certified.specs.Texts.{Stage, IsAfter, answer_at, is_settled_by}
use Rattle.outside_desk.specs.Files.{IsPiece}
use Rattle.run_answers.specs.declared.refusal.Refusal.TheVariants as refusals
use Rattle.run_answers.specs.declared.stop.ReadStop.{ReadStop}
use Rattle.run_answers.specs.declared.stop.ReadStop.TheVariants as reads
use Rattle.run_task.specs.Certificates.{said_of_text, verdict_on_text, most}
use Rattle.run_task.specs.declared.pieces.Next.{Next}
use Rattle.run_task.specs.declared.pieces.Next.TheVariants.{More, End, Long}

-- the checker took so many bytes of the file, and they decide nothing yet
pub record IsReady (s : CheckerState) (file : List ℕ) (from : ℕ) (c : Stage) : Type 0 where
  pub within : from ≤ most
  pub after : IsAfter s (take from file) c
  pub unsettled : is_settled_by s (take from file) ≡ false

-- what a reading of a piece of a file, which may be missing, answers
abbrev pub GivesPiece : Option (List ℕ) → ℕ → List ℕ → List ℕ → Result ℕ ReadStop → Type 0
GivesPiece file from out path (Ok n) = IsSomeAnd file (λ bytes. IsPiece bytes from out n)
GivesPiece file from out path (Err (reads.Refused refusal)) = (file ≡ None) × (refusal ≡ refusals.MissingInput path)
GivesPiece file from out path (Err (reads.Fault at)) = Unit {0}
GivesPiece file from out path (Err reads.NoMemory) = Unit {0}

-- what one piece more leaves: more is to be read; or what was read decides; or there is too much
abbrev pub IsNext : CheckerState → List ℕ → Stage → Next → Type 0
IsNext s file new (More n) = IsReady s file n new
IsNext s file new End = said_of_text s file ≡ verdict_on_text (answer_at new.progress new.failed new.place.rest)
IsNext s file new Long = said_of_text s file ≡ Err refusals.CertificateTooLarge

abbrev pub TakesNext : CheckerState → Option (List ℕ) → ℕ → List ℕ → Stage → Stage → Result Next ReadStop → Type 0
TakesNext s file from path old new (Ok next) = IsSomeAnd file (λ bytes. IsReady s bytes from old → IsNext s bytes new next)
TakesNext s file from path old new (Err (reads.Refused refusal)) = (file ≡ None) × (refusal ≡ refusals.MissingInput path)
TakesNext s file from path old new (Err (reads.Fault at)) = Unit {0}
TakesNext s file from path old new (Err reads.NoMemory) = Unit {0}

-- what all pieces leave, from the file's begin on: what was read decides, or there is too much
abbrev pub end_of : Bool → Next
end_of true = End
end_of false = Long

abbrev pub TakesAll : CheckerState → Option (List ℕ) → List ℕ → Stage → Stage → Result Bool ReadStop → Type 0
TakesAll s file path old new (Ok decided) = TakesNext s file 0 path old new (Ok (end_of decided))
TakesAll s file path old new (Err stop) = TakesNext s file 0 path old new (Err stop)

-- a reading goes on, within the limit
abbrev pub Moves : ℕ → Next → Type 0
Moves from (More n) = (from < n) × (n ≤ most)
Moves from End = Unit {0}
Moves from Long = Unit {0}
