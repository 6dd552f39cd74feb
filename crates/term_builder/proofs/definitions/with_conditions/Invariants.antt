use Rattle.std.proofs.Common.{◌≡◌, ◌++◌, map, drop}
use Rattle.clause_formulas.specs.Drafts.{statement_of}
use Rattle.cost_terms.specs.Governing.{with_formulas}
use Rattle.term_builder.specs.VariantTerms.{row_said}
use Rattle.term_builder.proofs.definitions.with_conditions.Given as goal

abbrev pub invariant-loop-row : goal.invariant-loop-row
invariant-loop-row l = map row_said l.held.items ++ with_formulas (drop l.row-index l.rows) (map statement_of l.left)
    ≡ with_formulas l.fn.rows (map statement_of l.fn.conditions)
