use Rattle.std.proofs.Common.{true}
use Rattle.possible_closure.proofs.Lists.{written_more}
use Rattle.table_building.proofs.wanted.add_asked.Goals as goal

pub loop-row-preserved : goal.loop-row-preserved
loop-row-preserved c = rw (c.in_ok-add_written.ensures, c.loop-row.invariant)
    (written_more (λ row. row.part.name) (λ row. true) c.args.rows.now c.loop-row.row-index c.row-item.result
    c.loop-row-test.true c.row-item.is
    c.args.asked.now.items)
