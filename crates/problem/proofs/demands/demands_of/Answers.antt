use Rattle.std.proofs.Common.{map}
use Rattle.condition_rules.specs.OfConditions.Recipe.{Recipe}
use Rattle.condition_rules.specs.OfConditions.Right.{numbers_of}
use Rattle.problem.specs.declared.demand.Demand.TheVariants.{Directive}
use Rattle.problem.proofs.NumberLaws.{flat_step}
use Rattle.problem.proofs.demands.demands_of.Goals as goal

pub loop-recipe-preserved : goal.loop-recipe-preserved
loop-recipe-preserved c = flat_step (λ (r : Recipe). map (Directive r.name) (numbers_of r)) c.args.recipes.now c.loop-recipe.recipe-index
    c.recipe-item.result _ _ _ c.loop-recipe-test.true c.recipe-item.is
    (rw (c.as_slice.ensures.value, c.in_ok-numbers.ensures) at c.in_ok-add_directives.ensures) c.loop-recipe.invariant
