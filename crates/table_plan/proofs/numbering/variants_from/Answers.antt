use Rattle.std.proofs.Common.{length, arith}
use Rattle.table_plan.specs.Numbers.{numbered}
use Rattle.table_plan.proofs.Runs.{total_more, run_next}
use Rattle.table_plan.proofs.numbering.variants_from.Goals as goal

pub loop-variant-preserved : goal.loop-variant-preserved
loop-variant-preserved c = record {
  made = rw (c.in_ok-push.ensures.ok, c.in_ok-one.ensures.variant, c.loop-variant.invariant.made)
      (run_next (λ m v. (v.0, numbered m v.1)) (λ v. length v.1) c.args.variants.now c.loop-variant.variant-index c.variant-item.result
      c.loop-variant-test.true c.variant-item.is c.args.next.now c.loop-variant.next c.loop-variant.invariant.next);
  next = omega (
    arith,
    c.in_ok-one.ensures.next,
    c.loop-variant.invariant.next,
    total_more (λ m v. m) (λ v. length v.1) c.args.variants.now c.loop-variant.variant-index c.variant-item.result c.loop-variant-test.true
        c.variant-item.is,
  );
}
