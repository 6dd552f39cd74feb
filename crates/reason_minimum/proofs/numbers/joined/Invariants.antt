use Rattle.std.proofs.Common.{◌≡◌, ◌||◌, ℕ, drop}
use Rattle.explain_failure.specs.Uses.{stands, IsRising}
use Rattle.reason_minimum.proofs.numbers.joined.Given as goal

abbrev pub invariant-loop-number : goal.invariant-loop-number
invariant-loop-number l = IsRising l.all.items
    × ((n : ℕ) → (stands l.all.items n || stands (drop l.number-index l.more) n) ≡ (stands l.rising n || stands l.more n))
