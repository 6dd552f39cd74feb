-- Sums over lists.
use Rattle.std.proofs.Common.{◌≡◌, refl, ℕ, ◌+◌, ◌*◌, List, [], ◌∷◌, length, arith}
use Rattle.std.proofs.lemmas.List.Sums.{sum_by-cons}
use Rattle.std.specs.List.{sum_by}

-- twice a sum
pub sum-twice : {X : Type 0} (f : X → ℕ) (xs : List X) → sum_by (λ x. 2 * f x) xs ≡ 2 * sum_by f xs
sum-twice f [] = refl
sum-twice f (x ∷ xs) = omega (arith, sum-twice f xs, sum_by-cons (λ y. 2 * f y) x xs, sum_by-cons f x xs)

-- and twice the length
pub sum-twice-each : {X : Type 0} (f : X → ℕ) (xs : List X) → sum_by (λ x. 2 * f x + 2) xs ≡ 2 * (length xs + sum_by f xs)
sum-twice-each f [] = refl
sum-twice-each f (x ∷ xs) = omega (arith, sum-twice-each f xs, sum_by-cons (λ y. 2 * f y + 2) x xs, sum_by-cons f x xs)

-- a sum of ones is the length
pub sum-ones : {X : Type 0} (xs : List X) → sum_by (λ x. 1) xs ≡ length xs
sum-ones [] = refl
sum-ones (x ∷ xs) = omega (arith, sum-ones xs, sum_by-cons (λ y. 1) x xs)
