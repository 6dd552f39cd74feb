use Rattle.std.proofs.Common.{arith}
use Rattle.std.proofs.lemmas.List.{take_all}
use Rattle.table_plan.specs.Numbers.{positive_lit}
use Rattle.table_plan.proofs.Runs.{total_more, run_next, ones}
use Rattle.table_plan.proofs.numbering.numbered.Goals as goal

pub loop-item-preserved : goal.loop-item-preserved
loop-item-preserved g c = record {
  choices = rw (c.in_ok-push.ensures.ok, c.in_ok-duplicate.ensures, c.in_ok-lit.ensures.lit, c.loop-item.invariant.choices)
      (run_next (λ m x. (x, positive_lit m)) (λ x. 1) c.args.items.now c.loop-item.item-index c.item-item.result c.loop-item-test.true
      c.item-item.is
      c.args.next.now c.loop-item.next c.loop-item.invariant.next);
  next = omega (
    arith,
    c.in_ok-lit.ensures.next,
    c.loop-item.invariant.next,
    total_more (λ m x. m) (λ x. 1) c.args.items.now c.loop-item.item-index c.item-item.result c.loop-item-test.true c.item-item.is,
  );
}

pub returns-clause-next : goal.returns-clause-next
returns-clause-next g c =
    omega (
      arith,
      rw (take_all c.loop-item.item-index c.args.items.now c.loop-item-test.false) at c.loop-item.invariant.next,
      ones
          c.args.items.now,
    )
