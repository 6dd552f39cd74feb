-- The code of differing ends, step by step.
use Rattle.std.proofs.Common.{◌≡◌, refl, sym, ap, ◌∙◌, Bool, true, false, List, [], ◌∷◌, ◌++◌, map}
use Rattle.std.specs.Prelude.{if◌then◌else◌}
use Rattle.std.specs.List.{list_all}
use Rattle.std.specs.Str.{bytes_eq}
use Rattle.std.proofs.lemmas.List.{append-nil}
use Rattle.clause_formulas.specs.Statements.{Statement, atom, never, no, both_statements, any_statement, all_statements}
use Rattle.graph_core.specs.Graphs.{Text}
use Rattle.literal_table.specs.Choices.{Choices, any_choice}
use Rattle.cost_terms.specs.declared.weighted.Weighted.{Weighted}
use Rattle.cost_terms.specs.Differ.{is_any_text, filled_said, can_differ, differ_terms}

all-texts : (xs : Choices Text) → list_all (λ x. is_any_text x.0) xs ≡ true
all-texts [] = refl
all-texts (x ∷ xs) = all-texts xs

-- a text is always something
pub texts-filled : (xs : Choices Text) → no never ≡ filled_said is_any_text bytes_eq xs
texts-filled xs = sym (ap (λ b. if b then no never else any_choice is_any_text xs) (all-texts xs))

module _ {T : Type 0} (filled : T → Bool) (same : T → T → Bool) (there : Statement) (xs ys : Choices T) where
  -- no term where they cannot differ
  pub cannot-step : (can : Bool) (old : List Weighted) → can ≡ can_differ filled same xs ys → can ≡ false
      → old ≡ old ++ differ_terms filled same there xs ys
  cannot-step can old told wrong = rw (sym told ∙ wrong) (sym (append-nil old))

  -- the term where ends can differ
  pub can-step : (can : Bool) (old new : List Weighted) (left right : Statement) (parts : List Statement)
      → can ≡ can_differ filled same xs ys → can ≡ true
      → left ≡ filled_said filled same xs → right ≡ filled_said filled same ys
      → parts ≡ map (λ x. both_statements (atom x.1) (any_choice (same x.0) ys)) xs
      → new ≡ old ++ record { weight = 1; formula = all_statements (there ∷ left ∷ right ∷ no (any_statement parts) ∷ []) } ∷ []
      → new ≡ old ++ differ_terms filled same there xs ys
  can-step can old new left right parts told right-so l r p n =
      rw (sym told ∙ right-so) (n ∙ λ i. old ++ record {
        weight = 1;
        formula =
            all_statements (there ∷ l i ∷ r i ∷ no (any_statement (p i)) ∷ []);
      } ∷ [])

-- a formula where some may be nothing
pub some-step : {T : Type 0} (filled : T → Bool) (same : T → T → Bool) (xs : Choices T) (all : Bool)
    → all ≡ list_all (λ x. filled x.0) xs → all ≡ false
    → any_choice filled xs ≡ filled_said filled same xs
some-step filled same xs all is wrong = sym (ap (λ b. if b then no never else any_choice filled xs) (sym is ∙ wrong))
