use Rattle.table_building.proofs.Indexed.{among_each}
use Rattle.table_building.proofs.members.members.Goals as goal

pub returns : goal.returns
returns c = rw (c.in_ok-list.ensures, c.values.ensures.texts)
    (among_each c.args.set.now c.args.names.now c.values.ensures.ordered c.names-names.ensures.order)
