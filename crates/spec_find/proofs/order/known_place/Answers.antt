use Rattle.std.proofs.Common.{sym}
use Rattle.spec_find.proofs.OrderLaws.{found_place, not_missing}
use Rattle.spec_find.proofs.order.known_place.Goals as goal

pub returns : goal.returns
returns c = found_place c.args.records.now c.args.order.now c.requires.order c.args.hash.now _ (sym c.in-Some.ensures)

pub unreachable-requires : goal.unreachable-requires
unreachable-requires c = not_missing c.args.records.now c.args.order.now c.requires.order c.args.hash.now c.requires.there
    (sym c.in-None.ensures)
