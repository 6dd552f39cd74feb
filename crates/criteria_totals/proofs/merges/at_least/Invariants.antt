use Rattle.std.proofs.Common.{◌≡◌, ◌+◌}
use Rattle.criteria_totals.specs.Merges.{each, on_clause, off_clause}
use Rattle.criteria_totals.proofs.merges.at_least.Given as goal

abbrev pub invariant-loop-i : goal.invariant-loop-i
invariant-loop-i l = l.on.items ≡ each (on_clause l.k l.a l.b) l.i

abbrev pub invariant-loop-i-2 : goal.invariant-loop-i-2
invariant-loop-i-2 l = (l.on.items ≡ each (on_clause l.k l.a l.b) (l.k + 1)) × (l.off.items ≡ each (off_clause l.k l.a l.b) l.i)
