use Rattle.problem.specs.declared.demand.Demand.TheVariants.{Setting}
use Rattle.problem.proofs.NumberLaws.{places_more}
use Rattle.problem.proofs.demands.add_settings.Goals as goal

pub loop-place-preserved : goal.loop-place-preserved
loop-place-preserved c = places_more (Setting c.args.name.now) _ _ _ c.loop-place.place c.loop-place.invariant
    (rw c.in_ok-package.ensures at c.in_ok-push.ensures.ok)
