use Rattle.std.proofs.Common.{◌∙◌, get_or}
use Rattle.install_plan.proofs.SettleLaws.{woken_start, woken_more, woken_all}
use Rattle.std.proofs.lemmas.List.{get_or_default}
use Rattle.install_plan.specs.declared.numbers.Waiter.{Waiter}
use Rattle.install_plan.proofs.numbers.wake.Goals as goal

pub loop-waiter-init : goal.loop-waiter-init
loop-waiter-init c = rw (c.as_slice-waiter-items.ensures, c.replace-waiters.ensures.value)
    (woken_start c.args.heads.now c.args.numbers.now.items c.args.waiting.now.items c.args.settled.now.items c.args.place c.requires.right
    c.requires.place c.index_mut.result.now c.replace-waiters.new.dest c.index_mut.ensures.value (c.replace-waiters.ensures.after
    ∙ c.new.ensures))

pub loop-waiter-preserved : goal.loop-waiter-preserved
loop-waiter-preserved c =
    let none : Waiter = record { place = 0; next = 0 } in
    woken_more c.args.heads.now _ _ _ _ _ _ _ _ c.loop-waiter.invariant
    (get_or c.as_slice-waiter-items.result.now c.loop-waiter.waiter-index none) c.loop-waiter-test.true
    (get_or_default c.as_slice-waiter-items.result.now c.loop-waiter.waiter-index none _ c.loop-waiter-test.true)
    c.settle.new.numbers.items c.settle.new.waiting.items c.settle.new.settled.items c.in_ok-settle.ensures.right
    c.in_ok-settle.ensures.kept
    c.in_ok-settle.ensures.work c.in_ok-settle.ensures.waits

pub returns-clause-waits : goal.returns-clause-waits
returns-clause-waits c = woken_all c.args.heads.now _ _ _ _ _ _ _ _ c.loop-waiter.invariant c.loop-waiter-test.false
