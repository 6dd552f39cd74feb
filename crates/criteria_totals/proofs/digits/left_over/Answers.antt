use Rattle.criteria_totals.proofs.DigitLoops.{left_over-built}
use Rattle.criteria_totals.proofs.digits.left_over.Goals as goal

pub returns : goal.returns
returns c =
    left_over-built c.args.sorted.now c.args.i _ _ _ _ _ _ _ _ _ _ _ _ _ _ _ c.above.ensures c.above-2.ensures c.in_ok-implied.ensures
    c.in_ok-on.ensures.items c.in_ok-push.ensures.items c.in_ok-push_not_above.ensures c.above-3.ensures c.in_ok-from_slice.ensures
    c.in_ok-off.ensures.items c.in_ok-push-2.ensures.items c.above-4.ensures c.above-5.ensures c.in_ok-implied-2.ensures
    c.in_ok-push-3.ensures.items c.by_clauses.ensures
