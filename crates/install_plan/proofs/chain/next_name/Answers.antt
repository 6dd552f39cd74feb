use Rattle.std.specs.Option.{option_copied}
use Rattle.install_plan.specs.Chains.{MayComeBelow}
use Rattle.install_plan.proofs.ChainLaws.{first_is_least, some_passes}
use Rattle.install_plan.proofs.chain.next_name.Goals as goal

pub returns-then-may_come_below : goal.returns-then-may_come_below
returns-then-may_come_below c = first_is_least c.args.names.now c.loop-name.name-index c.name-item.result
    (MayComeBelow c.args.graph.now (option_copied c.args.above))
    c.requires.order c.loop-name-test.true c.name-item.is c.loop-name.invariant
    (rw c.as_str.ensures at (c.may_come_below.ensures.0 c.if-may_come_below.true))

pub unreachable-requires : goal.unreachable-requires
unreachable-requires c = some_passes c.args.names.now c.loop-name.name-index (MayComeBelow c.args.graph.now (option_copied c.args.above))
    c.loop-name-test.false
    c.loop-name.invariant c.requires.some.0 c.requires.some.1 c.requires.some.2
