use Rattle.std.proofs.Common.{◌∙◌}
use Rattle.virtuals.proofs.VirtualLaws.{has_virtual}
use Rattle.condition_rules.proofs.world.World.is_virtual.Goals as goal

pub returns : goal.returns
returns c = rw (← c.self.view_is) (c.is_virtual.ensures
    ∙ has_virtual c.self.inside.recipes.now c.self.inside.providers.now c.args.name.now c.self.invariant.providers)
