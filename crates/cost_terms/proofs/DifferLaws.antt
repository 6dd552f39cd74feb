-- Whether what is chosen of two lists differs.
use Rattle.std.proofs.Common.{◌≡◌, refl, ap, ◌∙◌, Bool, true, false, not, ◌&&◌, ℕ, [], ◌∷◌, inl, inr, arith}
use Rattle.std.specs.List.{list_any, list_all}
use Rattle.std.proofs.lemmas.Bool.{cases_Bool}
use Rattle.clause_store.specs.Lits.{lit_true}
use Rattle.clause_circuits.specs.Cells.{bit}
use Rattle.clause_formulas.specs.Statements.{Statement, eval, atom, no}
use Rattle.clause_formulas.proofs.Words.{eval-both, eval-all_of}
use Rattle.literal_table.specs.Choices.{Choices, chosen, any_choice}
use Rattle.literal_table.proofs.Choices.{any-chosen}
use Rattle.cost_terms.specs.Weighed.{sum_said}
use Rattle.cost_terms.specs.Differ.{filled_said, same_said, differ, can_differ, differ_said, differ_terms}
use Rattle.cost_terms.proofs.SpreadLaws.{said-cons}
use Rattle.cost_terms.proofs.PartLaws.{chosen-any, chosen-all, or-false}

module _ {T : Type 0} (v : ℕ → Bool) (filled : T → Bool) (same : T → T → Bool) where
  filled-is : (xs : Choices T) (x : T) → chosen v xs ≡ x ∷ [] → eval v (filled_said filled same xs) ≡ filled x
  filled-is xs x is = elim (cases_Bool (list_all (λ x. filled x.0) xs)) [
    | inl all ↦ rw (all, chosen-all v filled xs x is all) refl
    | inr some ↦ rw some (any-chosen v filled xs ∙ ap (list_any filled) is ∙ or-false filled x)
  ]

  same-are : (xs ys : Choices T) → eval v (same_said filled same xs ys) ≡ list_any (λ x. list_any (same x) (chosen v ys)) (chosen v xs)
  same-are [] ys = refl
  same-are (x ∷ xs) ys = elim (cases_Bool (lit_true v x.1)) [
    | inl l ↦ rw (eval-both v (atom x.1) (any_choice (same x.0) ys), l, any-chosen v (same x.0) ys, same-are xs ys) refl
    | inr l ↦ rw (eval-both v (atom x.1) (any_choice (same x.0) ys), l) (same-are xs ys)
  ]

  same-is : (xs ys : Choices T) (x y : T) → chosen v xs ≡ x ∷ [] → chosen v ys ≡ y ∷ [] → eval v (same_said filled same xs ys) ≡ same x y
  same-is xs ys x y p q = same-are xs ys ∙ rw (p, q) (or-false (λ x. list_any (same x) (y ∷ [])) x ∙ or-false (same x) y)

  cannot-is : (xs ys : Choices T) (x y : T) → chosen v xs ≡ x ∷ [] → chosen v ys ≡ y ∷ [] → can_differ filled same xs ys ≡ false
      → differ filled same x y ≡ false
  cannot-is xs ys x y p q h = chosen-any v (differ filled same x) ys y q
      (chosen-any v (λ x. list_any (λ y. differ filled same x y.0) ys) xs x p h)

  said-is : (there : Statement) (xs ys : Choices T)
      → eval v (differ_said filled same there xs ys)
      ≡ (eval v there && (eval v (filled_said filled same xs)
      && (eval v (filled_said filled same ys) && (not (eval v (same_said filled same xs ys)) && true))))
  said-is there xs ys =
      eval-all_of v (there ∷ filled_said filled same xs ∷ filled_said filled same ys ∷ no (same_said filled same xs ys) ∷ [])

  one-term : (f : Statement) → sum_said v (record { weight = 1; formula = f } ∷ []) ≡ bit (eval v f)
  one-term f = said-cons v (record { weight = 1; formula = f }) [] ∙ omega arith

  -- without an edge nothing is added
  pub differ-none : (there : Statement) (xs ys : Choices T) → eval v there ≡ false → sum_said v (differ_terms filled same there xs ys) ≡ 0
  differ-none there xs ys none = elim (cases_Bool (can_differ filled same xs ys)) [
    | inl can ↦ rw can (one-term (differ_said filled same there xs ys) ∙ rw (said-is there xs ys, none) refl)
    | inr cannot ↦ rw cannot refl
  ]

  -- an edge adds one where its ends differ
  pub differ-some : (there : Statement) (xs ys : Choices T) (x y : T) → eval v there ≡ true → chosen v xs ≡ x ∷ [] → chosen v ys ≡ y ∷ []
      → sum_said v (differ_terms filled same there xs ys) ≡ bit (differ filled same x y)
  differ-some there xs ys x y is p q = elim (cases_Bool (can_differ filled same xs ys)) [
    | inl can ↦ rw can (one-term (differ_said filled same there xs ys)
        ∙ rw (said-is there xs ys, is, filled-is xs x p, filled-is ys y q, same-is xs ys x y p q)
        (differ-some-cases (filled x) (filled y) (same x y)))
    | inr cannot ↦ rw (cannot, cannot-is xs ys x y p q cannot) refl
  ]
    where
      differ-some-cases : (a b c : Bool) → bit (true && (a && (b && (not c && true)))) ≡ bit (a && b && not c)
      differ-some-cases true true true = refl
      differ-some-cases true true false = refl
      differ-some-cases true false c = refl
      differ-some-cases false b c = refl
