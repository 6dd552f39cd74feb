use Rattle.recipe_reader.proofs.KeptLaws.{right}
use Rattle.recipe_reader.proofs.read.read_recipe.Goals as goal

pub returns-in-Ok-clause-right : goal.returns-in-Ok-clause-right
returns-in-Ok-clause-right c = right c.args.name.now c.args.bytes.now c.in-Ok.recipe c.in-Ok.ensures
