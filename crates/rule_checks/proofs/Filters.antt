-- Tests of those that pass another test.
use Rattle.std.proofs.Common.{◌≡◌, refl, ap, ◌∙◌, Bool, true, false, ◌&&◌, ◌||◌, List, [], ◌∷◌, cond}
use Rattle.std.specs.List.{list_all, list_any, filter}
use Rattle.condition_rules.specs.Words.{implies}

and_true : (b : Bool) → (b && true) ≡ b
and_true true = refl
and_true false = refl

and_false : (b : Bool) → (b && false) ≡ false
and_false true = refl
and_false false = refl

module _ {X : Type 0} (p test : X → Bool) where
  -- a test of all under a premise is one of all that meet it
  pub all-filter : (xs : List X) → list_all (λ x. implies (p x) (test x)) xs ≡ list_all test (filter p xs)
  all-filter [] = refl
  all-filter (x ∷ xs) =
      let rest = all-filter xs in
      elim (p x) as (λ b. (implies b (test x) && list_all (λ y. implies (p y) (test y)) xs)
      ≡ list_all test (cond b (x ∷ filter p xs) (filter p xs))) [ true ↦ ap (λ b. test x && b) rest | false ↦ rest ]

  -- a test of some under a premise is one of some that meet it
  pub any-filter : (xs : List X) → list_any (λ x. p x && test x) xs ≡ list_any test (filter p xs)
  any-filter [] = refl
  any-filter (x ∷ xs) =
      let rest = any-filter xs in
      elim (p x) as (λ b. ((b && test x) || list_any (λ y. p y && test y) xs) ≡ list_any test (cond b (x ∷ filter p xs) (filter p xs)))
      [ true ↦ ap (λ b. test x || b) rest | false ↦ rest ]

  -- the same, where the premise comes last
  pub any-filter_last : (xs : List X) → list_any (λ x. test x && p x) xs ≡ list_any test (filter p xs)
  any-filter_last [] = refl
  any-filter_last (x ∷ xs) =
      let rest = any-filter_last xs in
      elim (p x) as (λ b. ((test x && b) || list_any (λ y. test y && p y) xs) ≡ list_any test (cond b (x ∷ filter p xs) (filter p xs))) [
        | true ↦ ap (λ b. b || list_any (λ y. test y && p y) xs) (and_true (test x)) ∙ ap (λ b. test x || b) rest
        | false ↦ ap (λ b. b || list_any (λ y. test y && p y) xs) (and_false (test x)) ∙ rest
      ]
