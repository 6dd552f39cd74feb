use Rattle.std.proofs.Common.{◌||◌}
use Rattle.possible_closure.proofs.Lists.{joined_more}
use Rattle.table_building.proofs.wanted.add_names.Goals as goal

pub loop-dependency-preserved : goal.loop-dependency-preserved
loop-dependency-preserved c = rw (c.in_ok-add_named.ensures, c.loop-dependency.invariant)
    (joined_more (λ d. d.virtuals) (λ d. d.kinds.link || d.kinds.run) c.args.dependencies.now c.loop-dependency.dependency-index
    c.dependency-item.result c.loop-dependency-test.true c.dependency-item.is c.args.wanted.now.items)
