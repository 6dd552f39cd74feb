use Rattle.std.proofs.Common.{sym, ◌∙◌, map}
use Rattle.std.specs.Cmp.Lexicographic.{nat_list_cmp_total}
use Rattle.variant_values.specs.Texts.{byte_cmp}
use Rattle.keyed_lists.proofs.RiseLaws.{rises_decides}
use Rattle.recipe_data.specs.declared.recipe.Recipe.{Recipe}
use Rattle.judge_rows.proofs.parts.are_in_order.Goals as goal

pub returns : goal.returns
returns c = λ is. (rises_decides byte_cmp nat_list_cmp_total (map (λ (recipe : Recipe). recipe.name) c.args.recipes.now)).0
    (sym c.names_rise.ensures ∙ is)
