-- Sums and counts grow.
use Rattle.std.proofs.Common.{◌≡◌, ℕ, zero, suc, ◌≤◌, Bool, true, false, cond, inl, inr, arith}
use Rattle.std.proofs.lemmas.Bool.{cases_lt}
use Rattle.level_encoding.specs.Counts.{total_below, count_below}

-- there are no more that pass than there are
pub count-bound : (f : ℕ → Bool) (n : ℕ) → count_below f n ≤ n
unfolding count_below total_below
count-bound f zero = omega arith
count-bound f (suc n) = omega (arith, count-bound f n, small (f n))
  where
    small : (b : Bool) → cond b 1 0 ≤ 1
    small true = omega arith
    small false = omega arith

pub total-le : (f : ℕ → ℕ) (i n : ℕ) → i ≤ n → total_below f i ≤ total_below f n
unfolding total_below
total-le f i zero h = let e : i ≡ 0 = omega arith in rw e (omega arith)
total-le f i (suc n) h = elim (cases_lt i (suc n)) [
  | inl lt ↦ omega (arith, total-le f i n (omega arith))
  | inr ge ↦ let e : i ≡ suc n =
      omega arith in rw e (omega arith)
]
