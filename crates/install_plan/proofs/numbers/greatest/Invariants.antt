use Rattle.std.proofs.Common.{◌≡◌, ℕ, ◌⊎◌, ◌≤◌, All, Contains, take}
use Rattle.install_plan.specs.Numbers.{number_at}
use Rattle.install_plan.proofs.numbers.greatest.Given as goal

abbrev pub invariant-loop-place : goal.invariant-loop-place
invariant-loop-place l = record {
  above : All (λ q. number_at l.numbers q ≤ l.greatest) (take l.place-index l.places);
  there : (l.greatest ≡ 0) ⊎ ((q : ℕ) × Contains (take l.place-index l.places) q × (number_at l.numbers q ≡ l.greatest));
}
