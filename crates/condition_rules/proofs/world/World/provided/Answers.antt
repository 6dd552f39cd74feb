use Rattle.std.proofs.Common.{sym, ap, ◌∙◌}
use Rattle.keyed_lists.proofs.TextLaws.{not_found}
use Rattle.virtuals.specs.Virtuals.{recipe_name}
use Rattle.condition_rules.specs.Worlds.{recipe_of}
use Rattle.condition_rules.proofs.ProvidedLaws.{of_found, rows_at}
use Rattle.condition_rules.proofs.world.World.provided.Goals as goal

pub returns-in-Ok : goal.returns-in-Ok
unfolding recipe_of
returns-in-Ok c = rw (← c.self.view_is) (c.naming.ensures
    ∙ rows_at c.self.inside.recipes.now c.self.inside.provided.now _ c.args.name.now c.args.virtual_name.now c.self.invariant.order
    c.self.invariant.provided c.in-Ok.ensures)

pub returns-in-Err : goal.returns-in-Err
unfolding recipe_of
returns-in-Err c = rw (← c.self.view_is) (sym (ap (of_found c.args.virtual_name.now)
    (not_found recipe_name c.self.inside.recipes.now c.args.name.now _ c.in-Err.ensures)))
