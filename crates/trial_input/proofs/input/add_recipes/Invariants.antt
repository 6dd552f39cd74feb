use Rattle.std.proofs.Common.{◌≡◌}
use Rattle.trial_input.specs.Inputs.{with_recipes}
use Rattle.trial_input.proofs.Counts.{recipes_left}
use Rattle.trial_input.proofs.input.add_recipes.Given as goal

abbrev pub invariant-loop-more : goal.invariant-loop-more
invariant-loop-more l = recipes_left l.packages l.own l.more l.count l.draws.state l.desk ≡ with_recipes l.fn.packages l.fn.own l.fn.count
    l.fn.draws.state l.fn.desk
