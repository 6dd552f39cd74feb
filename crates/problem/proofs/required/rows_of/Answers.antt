use Rattle.problem.proofs.RequiredLaws.{rows_step}
use Rattle.problem.proofs.required.rows_of.Goals as goal

pub loop-place-preserved : goal.loop-place-preserved
loop-place-preserved c = rows_step c.args.entries.now c.loop-place.place c.index-entries-place.result _ _ _ c.loop-place-test.true
    c.index-entries-place.is (rw c.in_ok-row.ensures at c.in_ok-push.ensures.ok) c.loop-place.invariant
