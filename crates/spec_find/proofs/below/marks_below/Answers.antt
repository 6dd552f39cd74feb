use Rattle.std.proofs.lemmas.Result.{IfOk-weaker}
use Rattle.spec_find.specs.Found.{IsMetBelow}
use Rattle.spec_find.specs.Marks.{AreMarks}
use Rattle.spec_find.proofs.MarkLaws.{starts_low, met_where_marked}
use Rattle.spec_find.proofs.below.marks_below.Goals as goal

pub marks_above-requires-clause-starts : goal.marks_above-requires-clause-starts
marks_above-requires-clause-starts c = starts_low c.args.world.now c.args.records.now c.args.parents.now.items c.args.part.now
    c.as_str.result.now
    c.in_ok-starts-in-Some.starts c.requires.parents (rw c.as_slice.ensures.value at c.in_ok-starts-in-Some.ensures)

pub returns-in_ok-starts-in-Some-clause-marks : goal.returns-in_ok-starts-in-Some-clause-marks
returns-in_ok-starts-in-Some-clause-marks c = IfOk-weaker c.marks_above.result _
    (λ marks. AreMarks c.args.records.now (λ entry. IsMetBelow c.args.world.now c.args.records.now entry c.args.part.now) marks)
    (λ marks above. met_where_marked c.args.world.now c.args.records.now c.args.parents.now.items c.args.part.now c.as_str.result.now
    c.in_ok-starts-in-Some.starts marks (rw c.as_str.ensures c.in-Some.is) c.requires.parents
    (rw c.as_slice.ensures.value at c.in_ok-starts-in-Some.ensures) above) c.marks_above.ensures.marks
