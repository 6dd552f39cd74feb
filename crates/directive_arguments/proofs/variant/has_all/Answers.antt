use Rattle.std.proofs.lemmas.Bool.Decides.{same_from_decides}
use Rattle.recipe_data.specs.Right.{has_all}
use Rattle.directive_arguments.proofs.WordLaws.{has_all_decides}
use Rattle.directive_arguments.proofs.variant.has_all.Goals as goal

pub returns : goal.returns
returns c =
    same_from_decides _ (has_all c.args.values.now c.args.texts.now) (c.contains_all.ensures.0, c.contains_all.ensures.1)
    (has_all_decides c.args.values.now c.args.texts.now)
