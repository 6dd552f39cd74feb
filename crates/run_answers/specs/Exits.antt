-- The answers of a run, and what a sink tells.
use Rattle.std.specs.Prelude.{◌≡◌, ◌⊎◌, ℕ, List, Option}
use Rattle.outside_desk.specs.Files.{and_said, SaysPart}
use Rattle.run_answers.specs.declared.status.Status.{Status}
use Rattle.run_answers.specs.declared.status.Status.TheVariants as statuses

-- the exit status of each answer: 10 is that of the program where it is handed no words
abbrev pub number_of : Status → ℕ
number_of statuses.Done = 0
number_of statuses.Unsatisfiable = 1
number_of statuses.Usage = 2
number_of statuses.Undecided = 3
number_of statuses.BadInput = 4
number_of statuses.ReadFault = 5
number_of statuses.WriteFault = 6
number_of statuses.TooLarge = 7
number_of statuses.Refused = 8
number_of statuses.NoMemory = 9
number_of statuses.Stale = 11

-- the answers that a refusal has
abbrev pub IsRefusalStatus : Status → Type 0
IsRefusalStatus statuses.BadInput = Unit {0}
IsRefusalStatus statuses.TooLarge = Unit {0}
IsRefusalStatus statuses.Refused = Unit {0}
IsRefusalStatus other = ⊥

-- what is due this answer is answered so, or memory ran out
abbrev pub IsAnsweredBy : Status → Status → Type 0
IsAnsweredBy status result = (result ≡ status) ⊎ (result ≡ statuses.NoMemory)

-- what a sink tells of what was said, before and after
abbrev pub Spoken : Type 0
Spoken = Option (List ℕ) × Option (List ℕ)

-- nothing was said
abbrev pub IsSilent : Spoken → Type 0
IsSilent said = said.1 ≡ said.0

-- this was said, and nothing else
abbrev pub Says : Spoken → List ℕ → Type 0
Says said line = said.1 ≡ and_said said.0 line

-- a front of this was said, and nothing behind it
abbrev pub SaysFront : Spoken → List ℕ → Type 0
SaysFront said line = SaysPart said.0 said.1 line
