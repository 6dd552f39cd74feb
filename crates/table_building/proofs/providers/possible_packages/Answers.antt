use Rattle.problem.specs.Closure.{possible_providers}
use Rattle.table_plan.specs.Plans.{possible_packages}
use Rattle.table_building.proofs.Steps.{same_members, texts_same}
use Rattle.table_building.proofs.providers.possible_packages.Goals as goal

pub returns : goal.returns
unfolding possible_packages
returns c = rw (c.in_ok-packages.ensures, c.in_ok-providers.ensures)
    (same_members _ (possible_providers c.args.problem.now c.args.asked.now) c.args.names.now
    (texts_same (possible_providers c.args.problem.now c.args.asked.now)))
