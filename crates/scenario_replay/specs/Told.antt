-- What is said of the files that are replayed, and what is answered.
use Rattle.std.specs.Prelude.{◌≡◌, ◌==◌, ◌≤◌, ℕ, List, [], ◌∷◌, ◌++◌, length, Bool, ◌&&◌, not, if◌then◌else◌, codes, decimal}
use Rattle.std.specs.Prelude.{Option, IsSomeAnd, IfSome, All, Ok, ⊤}
use Rattle.std.specs.String.{string_bytes}
use Rattle.std.specs.FinMap.{get}
use Rattle.outside_desk.specs.Causes.{one_more}
use Rattle.outside_desk.specs.Files.{Files, and_said}
use Rattle.scenario_reader.specs.Scenarios.{meaning_of}
use Rattle.scenario_reader.specs.declared.scenario.Scenario.{Scenario}
use Rattle.scenario_replay.specs.declared.find.Found.{Found}
use Rattle.scenario_replay.specs.declared.find.Found.TheVariants as found
use Rattle.scenario_replay.specs.declared.comparison.Counts.{Counts}
use Rattle.scenario_replay.specs.declared.comparison.Replayed.{Replayed}
use Rattle.scenario_replay.specs.declared.comparison.Replayed.TheVariants as answers
use Rattle.scenario_replay.specs.declared.comparison.Comparison.{Comparison}
use Rattle.scenario_replay.specs.declared.comparison.Comparison.TheVariants as comparisons

-- texts one after the other, a line feed, and what is behind it
abbrev pub line_before : List ℕ → List (List ℕ) → List ℕ
line_before behind [] = 10 ∷ behind
line_before behind (text ∷ texts) = text ++ line_before behind texts

abbrev pub line : List (List ℕ) → List ℕ
line texts = line_before [] texts

-- the lines that are said of a file
abbrev pub lines_of : List ℕ → Comparison → List ℕ
lines_of path comparisons.Same = line (codes "same " ∷ path ∷ [])
lines_of path (comparisons.Differs what) = line_before (string_bytes what) (codes "differs " ∷ path ∷ [])
lines_of path (comparisons.Wrong why) = line (codes "no scenario " ∷ path ∷ codes ": " ∷ string_bytes why ∷ [])

abbrev pub none_yet : Counts
none_yet = record { same = 0; differing = 0; wrong = 0 }

-- the counts with a file more
abbrev pub counted : Comparison → Counts → Counts
counted comparisons.Same counts = record counts { same = one_more counts.same }
counted (comparisons.Differs what) counts = record counts { differing = one_more counts.differing }
counted (comparisons.Wrong why) counts = record counts { wrong = one_more counts.wrong }

-- the last line
abbrev pub last_line : Counts → List ℕ
last_line counts = line
    (decimal counts.same ∷ codes " same, " ∷ decimal counts.differing ∷ codes " differ, "
    ∷ decimal counts.wrong ∷ codes " no scenario" ∷ [])

-- there was a scenario, and nothing differed
abbrev pub are_same : Counts → Bool
are_same counts = not (counts.same == 0) && (counts.differing == 0 && counts.wrong == 0)

abbrev pub answer_of : Counts → Replayed
answer_of counts = if are_same counts then answers.Same else answers.Differs

abbrev pub path_of : Found → List ℕ
path_of (found.File path) = string_bytes path
path_of (found.Empty path) = string_bytes path
path_of (found.Closed path) = string_bytes path

abbrev pub exit_of : Replayed → ℕ
exit_of answers.Same = 0
exit_of answers.Differs = 1
exit_of answers.Broken = 2

-- ---- all files

-- files with what came of each, the last one first
abbrev pub Told : Type 0
Told = List (List ℕ × Comparison)

abbrev pub all_lines : Told → List ℕ
all_lines [] = []
all_lines (item ∷ told) = all_lines told ++ lines_of item.0 item.1

abbrev pub tally : Told → Counts
tally [] = none_yet
tally (item ∷ told) = counted item.1 (tally told)

-- a file that is there, and is a scenario
abbrev pub HasScenario : Option (List ℕ) → Type 0
HasScenario file = IsSomeAnd file (λ bytes. (scenario : Scenario) × (meaning_of bytes ≡ Ok scenario))

-- what comes of a file is the same or differs only where it is a scenario
abbrev pub IsDue : Option (List ℕ) → Comparison → Type 0
IsDue file comparisons.Same = HasScenario file
IsDue file (comparisons.Differs what) = HasScenario file
IsDue file (comparisons.Wrong why) = ⊤

abbrev pub IsWrong : Comparison → Type 0
IsWrong comparisons.Same = ⊥
IsWrong (comparisons.Differs what) = ⊥
IsWrong (comparisons.Wrong why) = ⊤

-- one file was replayed: what came of it was counted and said
pub record SaysOne
    (files : Option Files)
    (path : List ℕ)
    (counts new_counts : Counts)
    (before after : Option (List ℕ)) : Type 0 where
  pub comparison : Comparison
  pub due : IfSome files (λ m. IsDue (get m path) comparison)
  pub count : new_counts ≡ counted comparison counts
  pub said : after ≡ and_said before (lines_of path comparison)

-- files were replayed, as many as these at least
pub record ReplaysAll (count : ℕ) (files : Option Files) (before after : Option (List ℕ)) (counts : Counts) : Type 0 where
  pub told : Told
  pub each : IfSome files (λ m. All (λ item. IsDue (get m item.0) item.1) told)
  pub said : after ≡ and_said before (all_lines told)
  pub tallied : counts ≡ tally told
  pub enough : count ≤ length told

-- What was said and what is answered, after files were replayed.
pub record Replays (count : ℕ) (files : Option Files) (before after : Option (List ℕ)) (answer : Replayed) : Type 0 where
  pub told : Told
  pub each : IfSome files (λ m. All (λ item. IsDue (get m item.0) item.1) told)
  pub said : after ≡ and_said before (all_lines told ++ last_line (tally told))
  pub answered : answer ≡ answer_of (tally told)
  pub enough : count ≤ length told
