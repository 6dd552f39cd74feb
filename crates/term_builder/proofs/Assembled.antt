-- The lists of the table's criteria, one after another.
use Rattle.std.proofs.Common.{◌≡◌, sym, ap, ◌∙◌, Bool, true, false, ℕ, ◌+◌, ◌<◌, List, [], ◌∷◌, ◌++◌, map, drop, get_or, length, append_assoc}
use Rattle.std.proofs.lemmas.List.{drop_more}
use Rattle.graph_core.specs.Graphs.{Text}
use Rattle.problem.specs.Problems.{Problem}
use Rattle.literal_table.specs.Tables.{Table}
use Rattle.cost_terms.specs.declared.weighted.Weighted.{Weighted}
use Rattle.clause_formulas.specs.Statements.{Statement}
use Rattle.literal_table.specs.declared.block.Block.{Block}
use Rattle.problem.specs.Problems.{variants_at}
use Rattle.std.specs.Prelude.{flat_map}
use Rattle.cost_terms.specs.Governing.{with_formulas, variant_terms}
use Rattle.cost_terms.specs.Terms.{Held, terms_of, summed_terms, criteria_terms, over_variants_terms}
use Rattle.cost_terms.specs.Sums.{number_terms, cost_terms}
use Rattle.term_builder.specs.declared.variant_terms.Counted.{Counted}
use Rattle.term_builder.specs.VariantTerms.{counted_terms}
use Rattle.graph_rules.specs.declared.criterion.TheConstants.{CRITERIA}
use Rattle.graph_rules.specs.declared.criterion.Criterion.{Criterion}
use Rattle.graph_rules.specs.declared.criterion.Criterion.TheVariants as kinds
use Rattle.graph_rules.specs.declared.criterion.Summed.TheVariants as summands

-- one list more
pub pushed : {X : Type 0} (f : X → List Weighted) (xs : List X) (i : ℕ) (d : X) (made given : List Weighted)
    (old new whole : List (List Weighted))
    → i < length xs → made ≡ f (get_or xs i d) → given ≡ made → new ≡ old ++ given ∷ [] → old ++ map f (drop i xs) ≡ whole
    → new ++ map f (drop (i + 1) xs) ≡ whole
pushed f xs i d made given old new whole less m g e rest =
    ap (λ lists. lists ++ map f (drop (i + 1) xs)) (e ∙ ap (λ list. old ++ list ∷ []) (g ∙ m))
    ∙ append_assoc old (f (get_or xs i d) ∷ []) (map f (drop (i + 1) xs))
    ∙ ap (λ ys. old ++ map f ys) (sym (drop_more xs i d less)) ∙ rest

-- what is pushed for the variants of a block, where the conditions are those of its name
pub variants-are : (which : Counted) (problem : Problem) (held : Held) (b : Block) (fs : List Statement) → fs ≡ held b.name
    → over_variants_terms (counted_terms which) problem (λ name. fs) b ≡ over_variants_terms (counted_terms which) problem held b
variants-are which problem held b fs here =
    ap (λ gs. flat_map (variant_terms (counted_terms which) (with_formulas (variants_at problem b.name) gs)) b.variants) here

module _ (problem : Problem) (table : Table) (held : Held) (order : List Text) where
  abbrev pub number : Bool → Criterion → List Weighted
  number built c = number_terms built table order (terms_of problem table held c)

  -- the numbers of the criteria, of the nodes to build, and of the criteria again are all
  pub assembled : (start one two all : List (List Weighted)) → start ≡ [] → one ≡ start ++ map (number true) CRITERIA
      → two ≡ one ++ map (number true) (kinds.All summands.Node ∷ []) → all ≡ two ++ map (number false) CRITERIA
      → all ≡ cost_terms problem table held order
  unfolding cost_terms criteria_terms summed_terms
  assembled start one two all s a b c =
      let first : one ≡ map (number true) CRITERIA = a ∙ ap (λ lists. lists ++ map (number true) CRITERIA) s in
      let more : two ≡ map (number true) CRITERIA ++ map (number true) (kinds.All summands.Node ∷ [])
      = b ∙ ap (λ lists. lists ++ map (number true) (kinds.All summands.Node ∷ [])) first in
      c ∙ ap (λ lists. lists ++ map (number false) CRITERIA) more
