use Rattle.std.proofs.Common.{◌≡◌, ◌++◌, ◌-◌}
use Rattle.criteria_totals.specs.Digits.{digit_count, weight_digits}
use Rattle.criteria_totals.proofs.digits.weight_digits.Given as goal

abbrev pub invariant-loop-i : goal.invariant-loop-i
invariant-loop-i l = (l.digits.items ++ weight_digits (l._i-end - l._i) l.left l.lit ≡ weight_digits (digit_count l.weight) l.weight l.lit)
    × (l._i-end ≡ digit_count l.weight)
