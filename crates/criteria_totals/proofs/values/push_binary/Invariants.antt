use Rattle.std.proofs.Common.{◌≡◌, ◌++◌, ◌-◌}
use Rattle.criteria_totals.specs.Spellings.{binary}
use Rattle.criteria_totals.proofs.values.push_binary.Given as goal

abbrev pub invariant-loop-i : goal.invariant-loop-i
invariant-loop-i l = l.values.items ++ binary (l.width - l.i) l.left ≡ l.fn.values.items ++ binary l.width l.number
