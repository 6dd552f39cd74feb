use Rattle.std.proofs.Common.{◌≡◌, ◌∷◌, ◌++◌, map, take, drop}
use Rattle.clause_formulas.specs.Statements.{atom, any_statement, apart}
use Rattle.clause_formulas.proofs.formula.Formula.one.Given as goal

abbrev pub invariant-loop-lit : goal.invariant-loop-lit
invariant-loop-lit l = l.some.items ≡ map atom (take l.lit-index l.lits)

abbrev pub invariant-loop-i : goal.invariant-loop-i
invariant-loop-i l = l.parts.items ++ apart (drop l.i l.lits) ≡ any_statement (map atom l.lits) ∷ apart l.lits
