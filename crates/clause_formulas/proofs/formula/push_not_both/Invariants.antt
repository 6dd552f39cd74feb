use Rattle.std.proofs.Common.{◌≡◌, ◌++◌, map, take}
use Rattle.clause_formulas.specs.Statements.{not_both}
use Rattle.clause_formulas.proofs.formula.push_not_both.Given as goal

abbrev pub invariant-loop-other : goal.invariant-loop-other
invariant-loop-other l = l.parts.items ≡ l.fn.parts.items ++ map (not_both l.lit) (take l.other-index l.others)
