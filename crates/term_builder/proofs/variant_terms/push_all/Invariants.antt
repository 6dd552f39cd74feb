use Rattle.std.proofs.Common.{◌≡◌, ◌++◌, map, flat_map, drop}
use Rattle.cost_terms.specs.Governing.{variant_terms}
use Rattle.term_builder.specs.VariantTerms.{row_said, counted_terms}
use Rattle.term_builder.proofs.variant_terms.push_all.Given as goal

abbrev pub invariant-loop-variant : goal.invariant-loop-variant
invariant-loop-variant l =
    l.terms.items ++ flat_map (variant_terms (counted_terms l.which) (map row_said l.fn.definitions)) (drop l.variant-index l.fn.variants)
    ≡ l.fn.terms.items ++ flat_map (variant_terms (counted_terms l.which) (map row_said l.fn.definitions)) l.fn.variants
