-- How many bits a number has, and what was answered before a loop went on.
use Rattle.std.proofs.Common.{◌≡◌, ℕ, suc, ◌+◌, ◌/◌, List, ◌++◌, refl, arith}
use Rattle.std.proofs.lemmas.Bool.{ne_eqb}
use Rattle.clause_circuits.specs.Gates.{Made}
use Rattle.clause_circuits.specs.Binary.{size_below, size}

-- what was answered before
abbrev pub with_front : {A : Type 0} → List A → Made (List A) → Made (List A)
with_front xs m = record { plan = m.plan; answer = xs ++ m.answer }

-- the size counts at most 63 bits
pub size-start : (n : ℕ) → size_below 63 n ≡ size n
unfolding size
size-start n = refl

-- a number that is not 0 has one bit more than its half
pub size-more : (j k i n m : ℕ) → j ≡ suc k → (n ≡ 0 → ⊥) → i + size_below j n ≡ m → i + 1 + size_below k (n / 2) ≡ m
size-more j k i n m q z e = let h : size_below j n ≡ suc (size_below k (n / 2)) = rw (q, ne_eqb n 0 z) refl in omega arith
