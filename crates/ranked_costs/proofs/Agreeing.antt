-- Formulas of conditions that agree at the names of a table make the same terms.
use Rattle.std.proofs.Common.{◌≡◌, refl, sym, ap, ◌∙◌, Bool, true, false, List, [], ◌∷◌, ◌++◌, map, flat_map, Option, Some, None}
use Rattle.std.specs.Prelude.{if◌then◌else◌}
use Rattle.std.proofs.lemmas.List.Concat.{flat_map-cons}
use Rattle.graph_core.specs.Graphs.{Text}
use Rattle.graph_rules.specs.declared.criterion.TheConstants.{CRITERIA}
use Rattle.graph_rules.specs.declared.criterion.Summed.{Summed}
use Rattle.graph_rules.specs.declared.criterion.Summed.TheVariants as summands
use Rattle.graph_rules.specs.declared.criterion.Criterion.{Criterion}
use Rattle.graph_rules.specs.declared.criterion.Criterion.TheVariants as kinds
use Rattle.problem.specs.Problems.{Problem, variants_at}
use Rattle.literal_table.specs.Tables.{Table, block_of}
use Rattle.literal_table.specs.Choices.{Choices}
use Rattle.literal_table.specs.declared.block.Block.{Block}
use Rattle.cost_terms.specs.declared.weighted.Weighted.{Weighted}
use Rattle.cost_terms.specs.Parts.{in_part}
use Rattle.cost_terms.specs.Governing.{Row, with_formulas, variant_terms, other_terms, unused_terms}
use Rattle.cost_terms.specs.Terms.{Held, is_root_name, at_root_terms, off_root_terms, over_variants_terms, presence_terms, summed_terms, terms_of, criteria_terms}
use Rattle.cost_terms.specs.Sums.{part_terms, number_terms, numbers_terms, cost_terms}

module _ (problem : Problem) (table : Table) (order : List Text) (held other : Held)
    (same : (name : Text) (b : Block) → block_of table name ≡ Some b → held b.name ≡ other b.name) where
  abbrev Alike : (Block → List Weighted) → (Block → List Weighted) → Type 0
  Alike f g = (name : Text) (b : Block) → block_of table name ≡ Some b → f b ≡ g b

  number-alike : (built : Bool) (f g : Block → List Weighted) → Alike f g
      → number_terms built table order f ≡ number_terms built table order g
  number-alike built f g alike = number-alike-cases order
    where
      at : (name : Text) (o : Option Block) → block_of table name ≡ o → part_terms built f o ≡ part_terms built g o
      at name None e = refl
      at name (Some b) e = ap (in_part built b.origins) (alike name b e)

      number-alike-cases : (names : List Text) → flat_map (λ name. part_terms built f (block_of table name)) names
          ≡ flat_map (λ name. part_terms built g (block_of table name)) names
      number-alike-cases [] = refl
      number-alike-cases (n ∷ ns) =
          flat_map-cons (λ name. part_terms built f (block_of table name)) n ns
          ∙ (λ i. at n (block_of table n) refl i ++ number-alike-cases ns i)
          ∙ sym (flat_map-cons (λ name. part_terms built g (block_of table name)) n ns)

  variants-alike : (terms : Row → Choices Text → List Weighted)
      → Alike (over_variants_terms terms problem held) (over_variants_terms terms problem other)
  variants-alike terms name b e = ap (λ fs. flat_map (variant_terms terms (with_formulas (variants_at problem b.name) fs)) b.variants)
      (same name b e)

  at-alike : (f g : Block → List Weighted) → Alike f g → Alike (at_root_terms problem f) (at_root_terms problem g)
  at-alike f g alike name b e = ap (λ ts. if is_root_name problem b.name then ts else []) (alike name b e)

  off-alike : (f g : Block → List Weighted) → Alike f g → Alike (off_root_terms problem f) (off_root_terms problem g)
  off-alike f g alike name b e = ap (λ ts. if is_root_name problem b.name then [] else ts) (alike name b e)

  summed-alike : (summed : Summed) → Alike (summed_terms problem table held summed) (summed_terms problem table other summed)
  unfolding summed_terms
  summed-alike summands.Node name b e = refl
  summed-alike summands.Deprecated name b e = refl
  summed-alike summands.Version name b e = refl
  summed-alike summands.OtherValues name b e = variants-alike other_terms name b e
  summed-alike summands.UnusedDefaults name b e = variants-alike unused_terms name b e
  summed-alike summands.Providers name b e = refl
  summed-alike (summands.Edges attribute) name b e = refl
  summed-alike summands.Os name b e = refl
  summed-alike summands.Target name b e = refl
  summed-alike summands.Compiler name b e = refl

  criterion-alike : (criterion : Criterion) → Alike (terms_of problem table held criterion) (terms_of problem table other criterion)
  criterion-alike (kinds.All summed) = summed-alike summed
  criterion-alike (kinds.Roots summed) =
      at-alike (summed_terms problem table held summed) (summed_terms problem table other summed) (summed-alike summed)
  criterion-alike (kinds.Others summed) =
      off-alike (summed_terms problem table held summed) (summed_terms problem table other summed) (summed-alike summed)

  rows-alike : (built : Bool) (rows : List Criterion) → numbers_terms built table order (map (terms_of problem table held) rows)
      ≡ numbers_terms built table order (map (terms_of problem table other) rows)
  rows-alike built [] = refl
  rows-alike built (row ∷ rows) = λ i.
      number-alike built (terms_of problem table held row) (terms_of problem table other row) (criterion-alike row) i
      ∷ rows-alike built rows i

  numbers-alike : (built : Bool) → numbers_terms built table order (criteria_terms problem table held)
      ≡ numbers_terms built table order (criteria_terms problem table other)
  unfolding criteria_terms
  numbers-alike built = rows-alike built CRITERIA

  -- formulas that agree at the table's names make the same terms
  pub same-terms : cost_terms problem table held order ≡ cost_terms problem table other order
  unfolding cost_terms
  same-terms = λ i. numbers-alike true i ++ (number_terms true table order presence_terms ∷ numbers-alike false i)
