use Rattle.problem.proofs.NumberLaws.{roots_more}
use Rattle.problem.proofs.demands.roots_of.Goals as goal

pub loop-place-preserved : goal.loop-place-preserved
loop-place-preserved c = roots_more _ _ c.loop-place.place c.loop-place.invariant c.in_ok-push.ensures.ok
