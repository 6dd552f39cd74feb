use Rattle.std.proofs.Common.{arith}
use Rattle.table_plan.specs.Numbers.{edge_from, edge_width}
use Rattle.table_plan.proofs.Runs.{total_more, run_next}
use Rattle.table_plan.proofs.numbering.edges_from.Goals as goal

pub loop-e-preserved : goal.loop-e-preserved
loop-e-preserved c = record {
  made = rw (c.in_ok-push.ensures.items, c.in_ok-edge.ensures.edge, c.loop-e.invariant.made)
      (run_next edge_from edge_width c.args.possible.now c.loop-e.e-index c.e-item.result c.loop-e-test.true c.e-item.is
      c.args.next.now c.loop-e.next c.loop-e.invariant.next);
  next = omega (
    arith,
    c.in_ok-edge.ensures.next,
    c.loop-e.invariant.next,
    total_more edge_from edge_width c.args.possible.now c.loop-e.e-index c.e-item.result c.loop-e-test.true c.e-item.is,
  );
}
