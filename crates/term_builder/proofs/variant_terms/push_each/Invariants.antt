use Rattle.std.proofs.Common.{◌≡◌, ◌++◌, flat_map, drop}
use Rattle.cost_terms.specs.Governing.{governing_rows}
use Rattle.term_builder.specs.VariantTerms.{rows_of, counted_terms}
use Rattle.term_builder.proofs.variant_terms.push_each.Given as goal

abbrev pub invariant-loop-i : goal.invariant-loop-i
invariant-loop-i l =
    l.terms.items ++ flat_map (λ r. counted_terms l.which r l.fn.values) (governing_rows (rows_of (drop l.i l.definitions)))
    ≡ l.fn.terms.items ++ flat_map (λ r. counted_terms l.which r l.fn.values) (governing_rows (rows_of l.fn.definitions))
