use Rattle.std.proofs.Common.{ℕ, ◌<◌, IsTrue}
use Rattle.reachability.specs.Places.{leads}
use Rattle.reachability.proofs.table.PathTable.has_cycle.Given as goal

abbrev pub invariant-loop-place : goal.invariant-loop-place
invariant-loop-place l = (p : ℕ) → p < l.place → IsTrue (leads l.self p p) → ⊥
