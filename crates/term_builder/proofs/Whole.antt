-- What is pushed for the variants of a block are the terms of the criteria.
use Rattle.std.proofs.Common.{◌≡◌, ap, sym, List}
use Rattle.clause_formulas.specs.Statements.{Statement}
use Rattle.problem.specs.Problems.{Problem, variants_at}
use Rattle.literal_table.specs.declared.block.Block.{Block}
use Rattle.std.specs.Prelude.{flat_map}
use Rattle.cost_terms.specs.Governing.{with_formulas, variant_terms}
use Rattle.cost_terms.specs.Terms.{Held, over_variants_terms, other_values_terms, unused_defaults_terms}
use Rattle.term_builder.specs.VariantTerms.{counted_terms}
use Rattle.term_builder.specs.declared.variant_terms.Counted.TheVariants as counted

module _ (problem : Problem) (held : Held) (b : Block) (fs : List Statement) (here : held b.name ≡ fs) where
  -- values that are no defaults
  pub others-are : over_variants_terms (counted_terms counted.Others) problem (λ name. fs) b ≡ other_values_terms problem held b
  others-are = ap (λ gs. flat_map (variant_terms (counted_terms counted.Others) (with_formulas (variants_at problem b.name) gs)) b.variants)
      (sym here)

  -- defaults that are not used
  pub unused-are : over_variants_terms (counted_terms counted.Unused) problem (λ name. fs) b ≡ unused_defaults_terms problem held b
  unused-are = ap (λ gs. flat_map (variant_terms (counted_terms counted.Unused) (with_formulas (variants_at problem b.name) gs)) b.variants)
      (sym here)
