use Rattle.std.proofs.Common.{arith}
use Rattle.table_plan.specs.Numbers.{block_from, block_width}
use Rattle.table_plan.proofs.Runs.{total_more, run_next}
use Rattle.table_plan.proofs.numbering.blocks_from.Goals as goal

pub loop-p-preserved : goal.loop-p-preserved
loop-p-preserved c = record {
  made = rw (c.in_ok-push.ensures.items, c.in_ok-block.ensures.block, c.loop-p.invariant.made)
      (run_next block_from block_width c.args.nodes.now c.loop-p.p-index c.p-item.result c.loop-p-test.true c.p-item.is
      c.args.next.now c.loop-p.next c.loop-p.invariant.next);
  next = omega (
    arith,
    c.in_ok-block.ensures.next,
    c.loop-p.invariant.next,
    total_more block_from block_width c.args.nodes.now c.loop-p.p-index c.p-item.result c.loop-p-test.true c.p-item.is,
  );
}
