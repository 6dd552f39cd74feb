-- Sums and counts over the numbers below a bound.
use Prim.Native.Nat.{zero, suc}
use Rattle.std.specs.Prelude.{ℕ, ◌+◌, Bool, cond}

-- the sum over the numbers below n
unfoldable pub total_below : (ℕ → ℕ) → ℕ → ℕ
total_below f zero = 0
total_below f (suc k) = total_below f k + f k

-- how many numbers below n pass a test
unfoldable pub count_below : (ℕ → Bool) → ℕ → ℕ
count_below test n = total_below (λ k. cond (test k) 1 0) n
