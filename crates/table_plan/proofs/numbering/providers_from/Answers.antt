use Rattle.std.proofs.Common.{length, arith}
use Rattle.table_plan.specs.Numbers.{provider_from}
use Rattle.table_plan.proofs.Runs.{total_more, run_next}
use Rattle.table_plan.proofs.numbering.providers_from.Goals as goal

pub loop-asked-preserved : goal.loop-asked-preserved
loop-asked-preserved c = record {
  made = rw (c.in_ok-push.ensures.items, c.in_ok-provider.ensures.provider, c.loop-asked.invariant.made)
      (run_next provider_from (λ w. length w.1) c.args.virtuals.now c.loop-asked.asked-index c.asked-item.result c.loop-asked-test.true
      c.asked-item.is c.args.next.now c.loop-asked.next c.loop-asked.invariant.next);
  next = omega (
    arith,
    c.in_ok-provider.ensures.next,
    c.loop-asked.invariant.next,
    total_more provider_from (λ w. length w.1) c.args.virtuals.now c.loop-asked.asked-index c.asked-item.result c.loop-asked-test.true
        c.asked-item.is,
  );
}
