use Rattle.std.proofs.Common.{◌≡◌, ◌-◌, drop, []}
use Rattle.clause_circuits.proofs.AddLoops.{with_front}
use Rattle.criteria_totals.specs.Digits.{add_digits}
use Rattle.criteria_totals.proofs.digits.add.Given as goal

abbrev pub invariant-loop-i : goal.invariant-loop-i
invariant-loop-i l = with_front l.digits.items (add_digits (l.count - l.i) l.plan l.carry.items (drop l.i l.a) (drop l.i l.b))
    ≡ add_digits l.count l.fn.plan [] l.a l.b
