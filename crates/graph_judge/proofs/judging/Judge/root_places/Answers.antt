use Rattle.graph_judge.specs.Places.{keeps_root_at}
use Rattle.graph_judge.proofs.Lists.{roots_step}
use Rattle.graph_judge.proofs.judging.Judge.root_places.Goals as goal

pub loop-place-preserved : goal.loop-place-preserved
loop-place-preserved c = roots_step (keeps_root_at c.args.self.now)
    c.args.roots.now c.loop-place.place c.index-roots-place.result _ _ _ c.loop-place-test.true c.index-roots-place.is
    (rw (c.name_of.ensures, c.in_ok-kept.ensures) at c.in_ok-add_unless.ensures) c.loop-place.invariant
