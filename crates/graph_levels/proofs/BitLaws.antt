-- Bits that compare as numbers do.
use Rattle.std.proofs.Common.{ℕ, Bool, List, refl, sym, ap, ◌∙◌}
use Rattle.clause_store.specs.declared.Lit.{Lit}
use Rattle.clause_store.specs.Clauses.{Clauses, Meets}
use Rattle.clause_circuits.specs.Growth.{Grows}
use Rattle.graph_levels.proofs.Growing.{meets-parts}
use Rattle.criteria_totals.specs.Spellings.{compare_numbers}
use Rattle.criteria_totals.specs.Totals.{sums, IsTotals}
use Rattle.graph_levels.specs.Stages.{Nothing, Models, Stage}
use Rattle.graph_levels.specs.Bits.{SumsAre, Ranks, IsLeastModel, IsBest}

module _ {X : Type 0} (a b : Clauses) (S : (ℕ → Bool) → X → Type 0) (bits : List Lit) (lists : List (List (ℕ × Lit))) (numbers : X
    → List ℕ) where
  -- bits of sums are a stage that asks nothing
  pub totalled : (R : (ℕ → Bool) → X → Type 0) → IsTotals a b bits lists → Stage a b S Nothing R Nothing
  totalled R totals = record {
    grows = totals.defines.says.grows;
    local = λ v w x g s. tt;
    more = λ asked v x s r m. tt;
    only = λ asked v x s r m. tt;
    each = λ asked v x s r q. totals.defines.says.each asked v refl;
  }

  -- and compare as the numbers do
  pub ranked : Grows a b → IsTotals a b bits lists → ((v : ℕ → Bool) (x : X) → S v x → SumsAre lists numbers v x) → Ranks b S bits numbers
  ranked grows totals same = record {
    order = λ asked v w x y m n s t.
        let p = totals.order asked v w (meets-parts a b asked v grows m).1 (meets-parts a b asked w grows n).1 in
        p ∙ ap (λ k. compare_numbers k (sums w lists)) (same v x s) ∙ ap (compare_numbers (numbers x)) (same w y t);
    equal = λ asked v w x y m n s t e.
        sym (same v x s) ∙ totals.equal asked v w (meets-parts a b asked v grows m).1 (meets-parts a b asked w grows n).1 e ∙ same w y t;
  }

module _ {X : Type 0} (a : Clauses) (S R : (ℕ → Bool) → X → Type 0) (bits : List Lit) (numbers : X → List ℕ) where
  -- a model with the least bits spells what has the least numbers
  pub least : Models a S R → Ranks a S bits numbers → (asked v : ℕ → Bool) (x : X) → Meets asked v a.entries → S v x
      → IsLeastModel a bits asked v → IsBest R numbers asked x
  least models ranks asked v x m s small = λ y r e.
      let t = models.complete asked y r in
      small t.0 t.2 (ranks.order asked v t.0 x y m t.2 s t.1 ∙ e)
