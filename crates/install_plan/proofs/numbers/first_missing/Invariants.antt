use Rattle.std.proofs.Common.{ℕ, ◌<◌, ◌≤◌}
use Rattle.install_plan.specs.Numbers.{number_at}
use Rattle.install_plan.proofs.numbers.first_missing.Given as goal

abbrev pub invariant-loop-i : goal.invariant-loop-i
invariant-loop-i l = (k : ℕ) → l.from ≤ k → k < l.i → 1 ≤ number_at l.numbers (number_at l.places k)
