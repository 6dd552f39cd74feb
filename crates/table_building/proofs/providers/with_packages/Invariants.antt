use Rattle.std.proofs.Common.{◌≡◌, take, map}
use Rattle.table_plan.specs.Plans.{possible_packages}
use Rattle.table_building.proofs.providers.with_packages.Given as goal

abbrev pub invariant-loop-asked : goal.invariant-loop-asked
invariant-loop-asked l = l.providers ≡ map (λ virtual. (virtual, possible_packages l.problem l.names virtual))
    (take l.asked-index l.virtuals)
