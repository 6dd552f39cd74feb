use Rattle.std.proofs.Common.{◌≡◌, ◌++◌, drop}
use Rattle.cost_terms.specs.Governing.{formulas_of}
use Rattle.term_builder.specs.VariantTerms.{rows_of}
use Rattle.term_builder.proofs.governing.push_conditions.Given as goal

abbrev pub invariant-loop-one : goal.invariant-loop-one
invariant-loop-one l = l.parts.items ++ formulas_of (rows_of (drop l.one-index l.definitions))
    ≡ l.fn.parts.items ++ formulas_of (rows_of l.fn.definitions)
