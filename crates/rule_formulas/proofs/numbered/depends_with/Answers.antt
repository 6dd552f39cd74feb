use Rattle.std.proofs.Common.{sym, ap, subst, ◌∙◌, ◌==◌, List, filter}
use Rattle.std.specs.Ordering.{nat_cmp}
use Rattle.keyed_lists.specs.Keyed.{IsInOrder}
use Rattle.recipe_data.specs.declared.recipe.DependRow.{DependRow}
use Rattle.rule_formulas.proofs.Numbers.{depends-number, depends-rise}
use Rattle.rule_formulas.proofs.numbered.depends_with.Goals as goal

pub with_number-requires : goal.with_number-requires
with_number-requires c = subst (λ (rows : List DependRow). IsInOrder nat_cmp depends-number rows) (sym c.depends_at.ensures)
    (depends-rise c.args.problem.now c.recipes-recipes.ensures.right c.args.name.now)

pub returns : goal.returns
returns c = c.with_number.ensures ∙ ap (filter (λ (row : DependRow). row.number == c.args.number)) c.depends_at.ensures
