use Rattle.std.proofs.Common.{take}
use Rattle.virtuals.proofs.ProvidedLaws.{RowsSoFar}
use Rattle.virtuals.proofs.provided.ProvidedRows.of_recipes.Given as goal

abbrev pub invariant-loop-recipe : goal.invariant-loop-recipe
invariant-loop-recipe l = RowsSoFar (take l.recipe-index l.recipes) l.lists.items
