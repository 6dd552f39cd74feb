-- A number and its half: whether it is odd says the rest.
use Rattle.std.proofs.Common.{◌≡◌, ℕ, ◌+◌, ◌*◌, ◌/◌, ◌%◌, Bool, true, false, eqb, if◌then◌else◌, arith}
use Rattle.std.proofs.lemmas.Bool.Decides.{nat_tests}

-- a number and a bit in one: the number
pub half_of : (x : ℕ) (b : Bool) → (x * 2 + (if b then 1 else 0)) / 2 ≡ x
half_of x true = omega arith
half_of x false = omega arith

-- a number and a bit in one: the bit
pub odd_of : (x : ℕ) (b : Bool) → eqb ((x * 2 + (if b then 1 else 0)) % 2) 1 ≡ b
odd_of x true = grind (arith, nat_tests)
odd_of x false = grind (arith, nat_tests)
