use Rattle.std.proofs.Common.{◌+◌, ◌-◌, length, arith}
use Rattle.criteria_totals.proofs.MergeLoops.{merge-more}
use Rattle.criteria_totals.proofs.merges.merge.Goals as goal

pub loop-k-preserved : goal.loop-k-preserved
loop-k-preserved c =
    let all = length c.args.a.now + length c.args.b.now in
    merge-more (all - c.loop-k.k) (all - (c.loop-k.k + 1)) c.loop-k.k c.loop-k.plan _ _ _ _ _ c.loop-k.lits.items _ _ (omega arith)
    c.loop-k.invariant c.in_ok-at_least.ensures c.in_ok-add.ensures c.in_ok-push.ensures.items
