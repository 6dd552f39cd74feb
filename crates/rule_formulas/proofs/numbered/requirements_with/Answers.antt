use Rattle.std.proofs.Common.{sym, ap, subst, ◌∙◌, ◌==◌, List, filter}
use Rattle.std.specs.Ordering.{nat_cmp}
use Rattle.keyed_lists.specs.Keyed.{IsInOrder}
use Rattle.recipe_data.specs.declared.recipe.RequireRow.{RequireRow}
use Rattle.rule_formulas.proofs.Numbers.{requires-number, requirements-rise}
use Rattle.rule_formulas.proofs.numbered.requirements_with.Goals as goal

pub with_number-requires : goal.with_number-requires
with_number-requires c = subst (λ (rows : List RequireRow). IsInOrder nat_cmp requires-number rows) (sym c.requirements_at.ensures)
    (requirements-rise c.args.problem.now c.recipes-recipes.ensures.right c.args.name.now)

pub returns : goal.returns
returns c = c.with_number.ensures ∙ ap (filter (λ (row : RequireRow). row.number == c.args.number)) c.requirements_at.ensures
