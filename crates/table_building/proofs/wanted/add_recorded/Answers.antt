use Rattle.table_plan.specs.Plans.{recorded_names}
use Rattle.possible_closure.proofs.IndexLaws.{seen_more}
use Rattle.table_building.proofs.wanted.add_recorded.Goals as goal

pub loop-entry-preserved : goal.loop-entry-preserved
loop-entry-preserved c = rw (c.in_ok-add_names.ensures, c.as_slice.ensures, c.loop-entry.invariant)
    (seen_more recorded_names c.args.records.now c.loop-entry.entry-index c.entry-item.result c.loop-entry-test.true
    c.entry-item.is c.args.wanted.now.items)
