-- Exactly one of a list keeps a rule.
use Prim.Native.Nat.{zero, suc}
use Rattle.std.proofs.Common.{◌≡◌, refl, sym, ap, ◌∙◌, Bool, true, false, not, ◌||◌, ◌&&◌, ℕ, ◌+◌, ◌/◌, List, [], ◌∷◌, ◌++◌, map, take, drop, length, nat_lt, inl, inr, arith}
use Rattle.std.specs.Prelude.{◌==◌, if◌then◌else◌, count_by}
use Rattle.std.specs.List.{list_any, list_all}
use Rattle.std.proofs.lemmas.Bool.{cases_Bool, eqb-true, eq-eqb, ne_eqb}
use Rattle.std.proofs.lemmas.List.{take-append-drop}
use Rattle.std.proofs.lemmas.List.Sums.{sum_by-cons}
use Rattle.std.proofs.lemmas.List.Folds.{sum_by-zero, list_all-append}
use Rattle.clause_formulas.specs.Rules.{Proposition, isnt, keeps_rule, any_rule, every_rule}
use Rattle.graph_formulas.specs.Lists.{first_rules, apart_rules, half_length, halves_rule, few_rules, just_one}
use Rattle.graph_formulas.proofs.Rules.{or-false, some-kept}

-- exactly one
none-count : {T : Type 0} (test : T → Bool) (xs : List T) → (count_by test xs == 0) ≡ not (list_any test xs)
none-count test xs = sum_by-zero (λ x. if test x then 1 else 0) xs ∙ each xs
  where
    each : (xs : List _) → list_all (λ x. (if test x then 1 else 0) == 0) xs ≡ not (list_any test xs)
    each [] = refl
    each (x ∷ xs) = elim (cases_Bool (test x)) [ inl t ↦ rw t refl | inr f ↦ rw f (each xs) ]

plus-zero : (n : ℕ) → n ≡ 0 + n
plus-zero n = omega arith

one-more : (n : ℕ) → (1 + n == 1) ≡ (n == 0)
one-more n = elim (cases_Bool (n == 0)) [
  | inl t ↦ let e : n ≡ 0 = eqb-true n 0 t in rw t (eq-eqb (1 + n) 1 (omega (arith, e)))
  | inr f ↦ rw f (ne_eqb (1 + n) 1 (λ h. let e : n ≡ 0 = omega (arith, h) in let t : (n == 0) ≡ true = eq-eqb n 0 e in cc))
]

or-true : (a : Bool) → (a || true) ≡ true
or-true true = refl
or-true false = refl

and-true : (a : Bool) → (a && true) ≡ a
and-true true = refl
and-true false = refl

-- ---- at most one passes a test

module _ {T : Type 0} (test : T → Bool) where
  abbrev no_one : List T → Bool
  no_one xs = not (list_any test xs)

  abbrev few : List T → Bool
  few [] = true
  few (x ∷ xs) = if test x then no_one xs else few xs

  none-append : (xs ys : List T) → no_one (xs ++ ys) ≡ (no_one xs && no_one ys)
  none-append [] ys = refl
  none-append (x ∷ xs) ys = elim (cases_Bool (test x)) [ inl t ↦ rw t refl | inr f ↦ rw f (none-append xs ys) ]

  none-few : (xs : List T) → (no_one xs && few xs) ≡ no_one xs
  none-few [] = refl
  none-few (x ∷ xs) = elim (cases_Bool (test x)) [ inl t ↦ rw t refl | inr f ↦ rw f (none-few xs) ]

  few-append : (xs ys : List T) → few (xs ++ ys) ≡ ((no_one xs || no_one ys) && (few xs && few ys))
  few-append [] ys = refl
  few-append (x ∷ xs) ys = elim (cases_Bool (test x)) [
    | inl t ↦ rw t (none-append xs ys ∙ step (no_one xs) (no_one ys) (few ys) (none-few ys))
    | inr f ↦ rw f (few-append xs ys)
  ]
    where
      step : (n m f : Bool) → (m && f) ≡ m → (n && m) ≡ (m && (n && f))
      step true true f e = sym e
      step true false f e = refl
      step false true f e = refl
      step false false f e = refl

  one-few : (xs : List T) → (list_any test xs && few xs) ≡ (count_by test xs == 1)
  one-few [] = refl
  one-few (x ∷ xs) = rw (sum_by-cons (λ x. if test x then 1 else 0) x xs) (elim (cases_Bool (test x)) [
    | inl t ↦ rw (t, one-more (count_by test xs), none-count test xs) refl
    | inr f ↦ rw f (one-few xs ∙ ap (λ n. n == 1) (plus-zero (count_by test xs)))
  ])

-- ---- rules that say so

module _ {W T : Type 0} (p : W → Bool) (rule : T → Proposition W) (test : T → Bool) (same : (x : T) → keeps_rule p (rule x) ≡ test x) where
  abbrev all_kept : List (Proposition W) → Bool
  all_kept rs = list_all (keeps_rule p) rs

  all-rules : (rs : List (Proposition W)) → keeps_rule p (every_rule rs) ≡ all_kept rs
  all-rules [] = refl
  all-rules (r ∷ rs) = step (keeps_rule p r) (keeps_rule p (any_rule (map isnt rs))) (all_kept rs) (all-rules rs)
    where
      step : (a b c : Bool) → not b ≡ c → not (not a || b) ≡ (a && c)
      step true b c e = e
      step false b c e = refl

  halves-kept : (xs ys : List T) → keeps_rule p (halves_rule rule xs ys) ≡ (no_one test xs || no_one test ys)
  halves-kept xs ys = rw (some-kept p rule test same xs, some-kept p rule test same ys)
      (ap (λ b. no_one test xs || b) (or-false (no_one test ys)))

  first-kept : (x : T) (xs : List T) → all_kept (first_rules rule x xs) ≡ (not (test x) || no_one test xs)
  first-kept x [] = sym (or-true (not (test x)))
  first-kept x (y ∷ ys) =
      rw (same x, some-kept p rule test same (y ∷ ys))
      (and-true (not (test x) || (no_one test (y ∷ ys) || false)) ∙ ap (λ b. not (test x) || b) (or-false (no_one test (y ∷ ys))))

  apart-kept : (xs : List T) → all_kept (apart_rules rule xs) ≡ few test xs
  apart-kept [] = refl
  apart-kept (x ∷ xs) =
      list_all-append (keeps_rule p) (first_rules rule x xs) (apart_rules rule xs)
      ∙ rw (first-kept x xs, apart-kept xs) (step (test x) (no_one test xs) (few test xs) (none-few test xs))
    where
      step : (t n f : Bool) → (n && f) ≡ n → ((not t || n) && f) ≡ (if t then n else f)
      step true n f e = e
      step false n f e = refl

  few-kept : (times : ℕ) (xs : List T) → all_kept (few_rules times rule xs) ≡ few test xs
  unfolding few_rules
  few-kept zero xs = apart-kept xs
  few-kept (suc times) xs =
      let front = few-kept times (take (half_length xs) xs) in
      let back = few-kept times (drop (half_length xs) xs) in
      elim (nat_lt 8 (length xs)) as (λ b. all_kept (if b then halves_rule rule (take (half_length xs) xs) (drop (half_length xs) xs)
      ∷ (few_rules times rule (take (half_length xs) xs) ++ few_rules times rule (drop (half_length xs) xs)) else apart_rules rule xs)
      ≡ few test xs) [
        | true ↦ ap (λ b. keeps_rule p (halves_rule rule (take (half_length xs) xs) (drop (half_length xs) xs)) && b)
            (list_all-append (keeps_rule p) (few_rules times rule (take (half_length xs) xs))
            (few_rules times rule (drop (half_length xs) xs)))
            ∙ rw (halves-kept (take (half_length xs) xs) (drop (half_length xs) xs), front, back) refl
            ∙ sym (few-append test (take (half_length xs) xs) (drop (half_length xs) xs))
            ∙ ap (few test) (take-append-drop (half_length xs) xs)
        | false ↦ apart-kept xs
      ]

  -- exactly one keeps the rule where the count is one
  pub one-kept : (xs : List T) → keeps_rule p (just_one rule xs) ≡ (count_by test xs == 1)
  one-kept xs =
      rw (some-kept p rule test same xs, all-rules (few_rules (length xs / 8) rule xs), few-kept (length xs / 8) xs) (one-few test xs)
