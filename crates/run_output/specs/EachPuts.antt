-- What the puts of the answers of all roots leave.
use Rattle.std.specs.Prelude.{◌≡◌, ℕ, List, Option, Result, Ok, Err}
use Rattle.outside_desk.specs.Files.{Files, and_said, SaysPart}
use Rattle.run_task.specs.Problems.{Problem, each_alone}
use Rattle.run_task.specs.Answer.{Answer}
use Rattle.run_task.specs.WriteStop.{WriteStop}
use Rattle.run_task.specs.WriteStop.TheVariants as writes
use Rattle.run_output.specs.Each.{each_text, files_from, files_of_each, IsHalfFrom, outcome_of_all}
use Rattle.run_output.specs.declared.answer.Outcome.{Outcome}

abbrev pub PutsEach : List ℕ → List Problem → List Answer → Option Files → Option Files → Result (Unit {0}) WriteStop → Type 0
PutsEach dir problems found before after (Ok done) = after ≡ files_from dir 0 problems found before
PutsEach dir problems found before after (Err (writes.Put path)) = IsHalfFrom dir 0 problems found path before after
PutsEach dir problems found before after (Err writes.Output) = ⊥
PutsEach dir problems found before after (Err writes.NoMemory) = Unit {0}

-- what the writing of all answers leaves
abbrev pub LeavesEach : List ℕ → Problem → List Answer → Option Files → Option Files → Option (List ℕ) → Option (List ℕ)
    → Result Outcome WriteStop → Type 0
LeavesEach dir problem found before after out_before out_after (Ok outcome) =
    (outcome ≡ outcome_of_all found) × (after ≡ files_of_each dir problem found before)
    × (out_after ≡ and_said out_before (each_text problem found))
LeavesEach dir problem found before after out_before out_after (Err (writes.Put path)) =
    IsHalfFrom dir 0 (each_alone problem) found path before after × (out_after ≡ out_before)
LeavesEach dir problem found before after out_before out_after (Err writes.Output) =
    (after ≡ files_of_each dir problem found before) × SaysPart out_before out_after (each_text problem found)
LeavesEach dir problem found before after out_before out_after (Err writes.NoMemory) = out_after ≡ out_before
