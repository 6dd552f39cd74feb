use Rattle.std.proofs.Common.{◌≡◌, ℕ, take}
use Rattle.explain_failure.specs.Uses.{stands, IsRising}
use Rattle.reason_minimum.specs.Parts.{labels}
use Rattle.reason_minimum.proofs.part.all_demands.Given as goal

abbrev pub invariant-loop-place : goal.invariant-loop-place
invariant-loop-place l = IsRising l.demands.items
    × ((d : ℕ) → stands l.demands.items d ≡ labels (take l.place l.clauses.entries) d)
