use Rattle.std.proofs.Common.{[], sym}
use Rattle.spec_find.specs.Marks.{MeetsParts}
use Rattle.spec_find.proofs.OrderLaws.{got_from}
use Rattle.spec_find.proofs.FoundLaws.{marks_more, marks_all, top_alone}
use Rattle.spec_find.proofs.search.top_marks.Goals as goal

pub loop-entry-preserved : goal.loop-entry-preserved
loop-entry-preserved c = rw c.in_ok-push.ensures.items
    (marks_more c.args.records.now (MeetsParts c.args.world.now c.args.records.now c.args.part.now []) c.loop-entry.entry-index
    c.loop-entry.marks.items c.entry-item.result c.in_ok-record_meets.field-0 c.loop-entry.invariant
    (got_from c.args.records.now c.loop-entry.entry-index c.entry-item.result c.entry-item.result c.loop-entry-test.true
    (sym c.entry-item.is))
    (top_alone c.args.world.now c.args.records.now c.args.part.now c.entry-item.result c.in_ok-record_meets.field-0
    c.in_ok-record_meets.ensures))

pub returns-clause-marks : goal.returns-clause-marks
returns-clause-marks c = marks_all c.args.records.now (MeetsParts c.args.world.now c.args.records.now c.args.part.now [])
    c.loop-entry.entry-index
    c.loop-entry.marks.items c.loop-entry.invariant c.loop-entry-test.false
