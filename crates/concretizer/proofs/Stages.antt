-- Words that are no command.
use Rattle.std.proofs.Common.{◌≡◌, ℕ, List, [], refl, sym, ◌∙◌, Option, Some, None, Err, inl}
use Rattle.std.specs.Prelude.{IfSome}
use Rattle.outside_desk.specs.Files.{Files}
use Rattle.run_answers.specs.Exits.{Spoken}
use Rattle.run_output.specs.Evidence.{evidence}
use Rattle.run_output.specs.Line.{Line}
use Rattle.run_output.specs.Reading.{GivesCommand}
use Rattle.run_output.specs.ReadStop.TheVariants.{Refused, Fault, NoMemory}
use Rattle.run_output.specs.Stop.{Stop}
use Rattle.run_output.specs.Stop.TheVariants.{Usage, Read, Write}
use Rattle.run_output.specs.Words.{Command, command_of}
use Rattle.concretizer.specs.Attempts.{Attempts, Follows, StopsAtOnce, FailsToRead, FailsToPut, FailsToSay}
use Rattle.concretizer.specs.Headline.{Keeps}
use Rattle.concretizer.specs.Logs.{AttemptKeeps}

some_not_none : {A B : Type 0} (x : A) → (let T : Type 0 = Option A in let a : T = Some x in let b : T = None in a ≡ b) → B
some_not_none x same = absurd cc

-- words that are a command are not none
pub not_refused : {A : Type 0} (words : List (List ℕ)) (command : Command) → command_of words ≡ Some command → command_of words ≡ None → A
not_refused words command named none = some_not_none command (sym named ∙ none)

-- words that are none end an attempt, and leave all as it was
none_attempted : (words : List (List ℕ)) (before : Option Files) (said : Option (List ℕ)) → GivesCommand words (Err Usage)
    → IfSome before (λ files. Attempts evidence files words before said said (Err Usage))
none_attempted words None said none = tt
none_attempted words (Some files) said none = (none, record { unchanged = refl; out = refl })

-- and so does want of memory over them
memory_ended : (words : List (List ℕ)) (before : Option Files) (said : Option (List ℕ))
    → IfSome before (λ files. Attempts evidence files words before said said (Err (Read NoMemory)))
memory_ended words None said = tt
memory_ended words (Some files) said = record { unchanged = refl; out = refl }

-- files that are as they were hold what they held
pub held_still : (words : List (List ℕ)) (before : Option Files) → IfSome before (λ files. Keeps evidence files words before)
held_still words None = tt
held_still words (Some files) = inl refl

-- whichever of the two it was
pub not_begun : (words : List (List ℕ)) (before : Option Files) (said : Option (List ℕ)) (stop : Stop) → GivesCommand words (Err stop)
    → IfSome before (λ files. Attempts evidence files words before said said (Err stop))
not_begun words before said Usage none = none_attempted words before said none
not_begun words before said (Read (Refused refusal)) never = absurd never
not_begun words before said (Read (Fault path)) never = absurd never
not_begun words before said (Read NoMemory) spent = memory_ended words before said
not_begun words before said (Write stop) never = absurd never

-- nothing had to come before it
pub follows_words : (told : Option Files) (words : List (List ℕ)) (stop : Stop) → GivesCommand words (Err stop)
    → Follows told words (Err stop)
follows_words told words Usage none = none
follows_words told words (Read (Refused refusal)) never = absurd never
follows_words told words (Read (Fault path)) never = absurd never
follows_words told words (Read NoMemory) spent = tt
follows_words told words (Write stop) never = absurd never

-- it stops before anything was read
pub stops_at_once : (words : List (List ℕ)) (stop : Stop) → GivesCommand words (Err stop) → StopsAtOnce (Err stop)
stops_at_once words Usage none = tt
stops_at_once words (Read (Refused refusal)) never = absurd never
stops_at_once words (Read (Fault path)) never = absurd never
stops_at_once words (Read NoMemory) spent = tt
stops_at_once words (Write stop) never = absurd never

-- no log is kept then
pub none_kept : (words : List (List ℕ)) (before : Option Files) (out : Spoken) (kept : List Line) (stop : Stop)
    → GivesCommand words (Err stop)
    → kept ≡ [] → IfSome before (λ files. AttemptKeeps files words before out kept (Err stop))
none_kept words None out kept stop gives empty = tt
none_kept words (Some files) out kept Usage gives empty = empty
none_kept words (Some files) out kept (Read stop) gives empty = empty
none_kept words (Some files) out kept (Write stop) never empty = absurd never

-- and no device failed
pub not_read : (words : List (List ℕ)) (stop : Stop) → GivesCommand words (Err stop) → FailsToRead (Err stop) → ⊥
not_read words Usage none fails = fails
not_read words (Read (Refused refusal)) never fails = fails
not_read words (Read (Fault path)) never fails = never
not_read words (Read NoMemory) spent fails = fails
not_read words (Write stop) never fails = never

-- no put failed
pub not_put : (words : List (List ℕ)) (stop : Stop) → GivesCommand words (Err stop) → FailsToPut (Err stop) → ⊥
not_put words Usage none fails = fails
not_put words (Read stop) gives fails = fails
not_put words (Write stop) never fails = never

-- no sink failed
pub not_said : (words : List (List ℕ)) (stop : Stop) → GivesCommand words (Err stop) → FailsToSay (Err stop) → ⊥
not_said words Usage none fails = fails
not_said words (Read stop) gives fails = fails
not_said words (Write stop) never fails = never
