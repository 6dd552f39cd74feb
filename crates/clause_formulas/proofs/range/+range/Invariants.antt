use Rattle.std.proofs.Common.{◌+◌, ◌*◌, drop}
use Rattle.clause_formulas.specs.Statements.{any_statement, weight, SaidBelow}
use Rattle.clause_formulas.proofs.range.+range.Given as goal

abbrev pub invariant-are_below-loop-formula : goal.invariant-are_below-loop-formula
invariant-are_below-loop-formula l = SaidBelow l.vars (any_statement (drop l.formula-index l.formulas))
    → SaidBelow l.vars (any_statement l.formulas)

abbrev pub decreases-is_below : goal.decreases-is_below
decreases-is_below l = 2 * weight l.formula.now + 1

abbrev pub decreases-are_below : goal.decreases-are_below
decreases-are_below l = 2 * weight (any_statement l.formulas.now)
