use Rattle.std.proofs.Common.{◌-◌, ◌+◌, arith}
use Rattle.criteria_totals.proofs.SpellingLaws.{unary-more}
use Rattle.criteria_totals.proofs.values.push_unary.Goals as goal

pub loop-i-preserved : goal.loop-i-preserved
loop-i-preserved c = unary-more (c.args.top - c.loop-i.i) (c.args.top - (c.loop-i.i + 1)) c.args.number _ _ _ (omega arith)
    c.loop-i.invariant c.in_ok-push.ensures.items
