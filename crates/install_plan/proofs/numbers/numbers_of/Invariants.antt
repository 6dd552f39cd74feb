use Rattle.std.proofs.Common.{◌≡◌, ℕ, ◌<◌, ◌+◌, length}
use Rattle.install_plan.specs.Numbers.{number_at, missing, AreRight, Waits}
use Rattle.install_plan.proofs.numbers.numbers_of.Given as goal

abbrev pub invariant-loop-place : goal.invariant-loop-place
invariant-loop-place l = record {
  right : AreRight l.heads l.numbers.items l.waiting.items l.settled.items;
  waits : (p : ℕ) → p < l.place → number_at l.numbers.items p ≡ 0 → Waits l.heads l.numbers.items l.waiting.items l.settled.items p;
}

abbrev pub invariant-loop-place-2 : goal.invariant-loop-place-2
invariant-loop-place-2 l = record {
  right : AreRight l.heads l.numbers.items l.waiting.items l.settled.items;
  waits : (p : ℕ) → p < length l.heads → number_at l.numbers.items p ≡ 0 → Waits l.heads l.numbers.items l.waiting.items l.settled.items p;
}

abbrev pub decreases-loop-place-2 : goal.decreases-loop-place-2
decreases-loop-place-2 l = length l.settled.items + missing l.numbers.items
