-- The parts of a formula are smaller.
use Rattle.std.specs.Prelude.{◌+◌, ◌≤◌, max, List, [], ◌∷◌}
use Rattle.std.proofs.Common.{arith}
use denote.Param.Weighed.{most}
use Rattle.clause_formulas.specs.declared.formula.Node.{Node}
use Rattle.clause_formulas.specs.declared.formula.Node.TheVariants.{Atom, Any, NoneOf}
use Rattle.clause_formulas.specs.declared.formula.Formula.TheDeep.{deep-Node}
use Rattle.clause_formulas.specs.Statements.{Statement, any_statement, weight}
use Rattle.clause_formulas.specs.Nodes.{said}

most_le-weight : (fs : List Statement) → most (λ f. weight f + 1) fs ≤ weight (any_statement fs)
most_le-weight [] = omega arith
most_le-weight (f ∷ fs) = omega (arith, most_le-weight fs)

-- the parts are smaller
pub deep_le_size : (n : Node) → max (deep-Node n) 0 ≤ weight (said n)
deep_le_size (Atom l) = omega arith
deep_le_size (Any fs) = omega (arith, most_le-weight fs.items)
deep_le_size (NoneOf fs) = omega (arith, most_le-weight fs.items)
