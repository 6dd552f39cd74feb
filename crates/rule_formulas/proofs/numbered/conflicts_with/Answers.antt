use Rattle.std.proofs.Common.{sym, ap, subst, ◌∙◌, ◌==◌, List, filter}
use Rattle.std.specs.Ordering.{nat_cmp}
use Rattle.keyed_lists.specs.Keyed.{IsInOrder}
use Rattle.recipe_data.specs.declared.recipe.ConflictRow.{ConflictRow}
use Rattle.rule_formulas.proofs.Numbers.{conflicts-number, conflicts-rise}
use Rattle.rule_formulas.proofs.numbered.conflicts_with.Goals as goal

pub with_number-requires : goal.with_number-requires
with_number-requires c = subst (λ (rows : List ConflictRow). IsInOrder nat_cmp conflicts-number rows) (sym c.conflicts_at.ensures)
    (conflicts-rise c.args.problem.now c.recipes-recipes.ensures.right c.args.name.now)

pub returns : goal.returns
returns c = c.with_number.ensures ∙ ap (filter (λ (row : ConflictRow). row.number == c.args.number)) c.conflicts_at.ensures
