-- Sums that stop at a greatest number, one element after another.
use Rattle.std.proofs.Common.{◌≡◌, refl, sym, ap, ◌∙◌, Bool, true, false, ℕ, ◌+◌, ◌-◌, ◌^◌, ◌<◌, ◌≤◌, min, arith, length, get_or, take, List, [], ◌∷◌, cond}
use Rattle.std.specs.List.{filter, sum_by}
use Rattle.std.proofs.lemmas.List.Sums.{sum_by_more, sum_by-cons}
use Rattle.graph_rules.specs.Costs.{stopped}

cap_both : (a b m : ℕ) → min (min a m + min b m) m ≡ min (a + b) m
cap_both a b m = omega arith

cap_one : (a b m : ℕ) → min (min a m + b) m ≡ min (a + b) m
cap_one a b m = omega arith

-- a number within a limit does not stop at it
pub within : (n m : ℕ) → n ≤ m → n ≡ min n m
within n m le = omega arith

next : {X : Type 0} (cost : X → ℕ) (xs : List X) (i : ℕ) (x : X) → i < length xs → x ≡ get_or xs i x
    → sum_by cost (take i xs) + cost x ≡ sum_by cost (take (i + 1) xs)
next cost xs i x lt is = ap (λ y. sum_by cost (take i xs) + cost y) is ∙ sym (sum_by_more cost xs i x lt)

-- the next cost is known as it stops
pub stopped_step : {X : Type 0} (cost : X → ℕ) (xs : List X) (i : ℕ) (x : X) (total c more : ℕ) → i < length xs → x ≡ get_or xs i x
    → total ≡ stopped (sum_by cost (take i xs)) → c ≡ stopped (cost x) → more ≡ stopped (total + c)
    → more ≡ stopped (sum_by cost (take (i + 1) xs))
stopped_step cost xs i x total c more lt is before here grown =
    grown ∙ ap (λ t. stopped (t + c)) before ∙ ap (λ t. stopped (stopped (sum_by cost (take i xs)) + t)) here
    ∙ cap_both (sum_by cost (take i xs)) (cost x) (2 ^ 64 - 1) ∙ ap stopped (next cost xs i x lt is)

-- the next cost is known whole
pub whole_step : {X : Type 0} (cost : X → ℕ) (xs : List X) (i : ℕ) (x : X) (total c more : ℕ) → i < length xs → x ≡ get_or xs i x
    → total ≡ stopped (sum_by cost (take i xs)) → c ≡ cost x → more ≡ stopped (total + c) → more ≡ stopped (sum_by cost (take (i + 1) xs))
whole_step cost xs i x total c more lt is before here grown =
    grown ∙ ap (λ t. stopped (t + c)) before ∙ ap (λ t. stopped (stopped (sum_by cost (take i xs)) + t)) here
    ∙ cap_one (sum_by cost (take i xs)) (cost x) (2 ^ 64 - 1) ∙ ap stopped (next cost xs i x lt is)

-- the costs of those that pass a test
pub sum_filter : {X : Type 0} (test : X → Bool) (cost : X → ℕ) (xs : List X)
    → sum_by (λ x. cond (test x) (cost x) 0) xs ≡ sum_by cost (filter test xs)
sum_filter test cost [] = refl
sum_filter test cost (x ∷ xs) =
    sum_by-cons (λ y. cond (test y) (cost y) 0) x xs ∙ ap (λ s. cond (test x) (cost x) 0 + s) (sum_filter test cost xs)
    ∙ sum_filter-cases (test x)
  where
    sum_filter-cases : (b : Bool) → cond b (cost x) 0 + sum_by cost (filter test xs)
        ≡ sum_by cost (cond b (x ∷ filter test xs) (filter test xs))
    sum_filter-cases true = sym (sum_by-cons cost x (filter test xs))
    sum_filter-cases false = omega arith
