use Rattle.std.proofs.Common.{◌≡◌, replicate}
use Rattle.criteria_totals.proofs.digits.repeated.Given as goal

abbrev pub invariant-loop-i : goal.invariant-loop-i
invariant-loop-i l = l.lits.items ≡ replicate l._i l.lit
