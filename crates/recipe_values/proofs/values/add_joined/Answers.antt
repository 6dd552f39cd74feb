use Rattle.recipe_values.proofs.Joins.{gives_ok}
use Rattle.recipe_values.proofs.Atoms.{both}
use Rattle.recipe_values.proofs.values.add_joined.Goals as goal

pub returns-in_ok-read-in-Ok : goal.returns-in_ok-read-in-Ok
returns-in_ok-read-in-Ok c = both _ _ _ _ _ _ (gives_ok _ _ _ _ c.in-Ok.is c.in_ok-add_string.ensures) c.in_ok-read-in-Ok.ensures
