use Rattle.graph_judge.proofs.Lists.{least_step}
use Rattle.graph_judge.proofs.places.least_of.Goals as goal

pub loop-place-preserved : goal.loop-place-preserved
loop-place-preserved c = least_step c.args.places.now c.loop-place.place-index c.place-item.result _ _ _ c.loop-place-test.true
    c.place-item.is c.lesser-best.ensures c.loop-place.invariant
