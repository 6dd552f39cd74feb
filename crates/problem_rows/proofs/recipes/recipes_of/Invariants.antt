use Rattle.std.proofs.Common.{◌≡◌, true}
use Rattle.std.specs.List.{list_all}
use Rattle.recipe_data.specs.Right.{is_right_recipe}
use Rattle.virtuals.specs.Virtuals.{AreInOrder}
use Rattle.problem_rows.proofs.recipes.recipes_of.Given as goal

abbrev pub invariant-loop-file : goal.invariant-loop-file
invariant-loop-file l = AreInOrder l.recipes.items × (list_all is_right_recipe l.recipes.items ≡ true)
