use Rattle.std.proofs.Common.{◌≡◌, ◌++◌, drop}
use Rattle.clause_formulas.specs.Statements.{apart}
use Rattle.clause_formulas.proofs.few.push_apart.Given as goal

abbrev pub invariant-loop-i : goal.invariant-loop-i
invariant-loop-i l = l.parts.items ++ apart (drop l.i l.lits) ≡ l.fn.parts.items ++ apart l.lits
