use Rattle.std.proofs.Common.{arith}
use Rattle.clause_watch.proofs.Below.{at-copy}
use Rattle.clause_watch.proofs.Swaps.{ordered-step, ordered-end}
use Rattle.clause_watch.proofs.watched_lits.WatchedLits.of_pair.Goals as goal

pub loop-code-preserved : goal.loop-code-preserved
loop-code-preserved c =
    let i = c.loop-code.code-index in
    ordered-step c.args.lits.now c.args.first c.args.second i c.loop-code.order.items c.push_other.new.order.items c.code-item.result
    c.requires.in_order (at-copy c.args.lits.now i c.code-item.result _ (omega arith) c.code-item.is) c.in_ok-push_other.ensures
    c.loop-code.invariant

pub returns : goal.returns
returns c = ordered-end c.args.lits.now c.args.first c.args.second c.loop-code.code-index c.loop-code.order.items (omega arith)
    c.loop-code.invariant
