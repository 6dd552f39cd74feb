use Rattle.std.proofs.lemmas.List.{take_all}
use Rattle.virtuals.proofs.ProvidedLaws.{rows_none, rows_more}
use Rattle.virtuals.proofs.provided.ProvidedRows.of_recipes.Goals as goal

pub loop-recipe-init : goal.loop-recipe-init
loop-recipe-init c = rows_none c.new-lists.result.items c.new-lists.ensures.items

pub loop-recipe-preserved : goal.loop-recipe-preserved
loop-recipe-preserved c = rows_more c.args.recipes.now c.loop-recipe.recipe-index c.recipe-item.result c.in_ok-by_name.field-0
    c.loop-recipe.lists.items c.push.new.self.items c.loop-recipe-test.true c.recipe-item.is
    (rw c.as_slice.ensures at c.in_ok-by_name.ensures) c.in_ok-push.ensures.items c.loop-recipe.invariant

pub invariant_of-result : goal.invariant_of-result
invariant_of-result c = c.loop-recipe.invariant.sorted

pub returns : goal.returns
returns c = (rw (take_all _ _ c.loop-recipe-test.false) at c.loop-recipe.invariant).same
