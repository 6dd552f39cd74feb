use Rattle.std.proofs.Common.{◌≡◌, ◌++◌, ◌-◌}
use Rattle.criteria_totals.specs.Spellings.{unary}
use Rattle.criteria_totals.proofs.values.push_unary.Given as goal

abbrev pub invariant-loop-i : goal.invariant-loop-i
invariant-loop-i l = l.values.items ++ unary (l.top - l.i) l.number ≡ l.fn.values.items ++ unary l.top l.number
