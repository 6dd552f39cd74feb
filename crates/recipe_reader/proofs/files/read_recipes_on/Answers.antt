use Rattle.recipe_reader.proofs.FileLaws.{all_right, all_named}
use Rattle.recipe_reader.proofs.files.read_recipes_on.Goals as goal

pub returns-in-Ok-clause-right : goal.returns-in-Ok-clause-right
returns-in-Ok-clause-right g c = all_right c.args.files.now c.in-Ok.recipes c.in-Ok.ensures.found

pub returns-in-Ok-clause-names : goal.returns-in-Ok-clause-names
returns-in-Ok-clause-names g c = all_named c.args.files.now c.in-Ok.recipes c.in-Ok.ensures.found
