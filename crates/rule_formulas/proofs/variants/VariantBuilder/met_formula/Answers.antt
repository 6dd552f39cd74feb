use Rattle.std.proofs.Common.{rules}
use Rattle.std.specs.Borrow.{Bor}
use Rattle.recipe_data.specs.declared.recipe.VariantRow.{VariantRow}
use Rattle.rule_formulas.proofs.variants.VariantBuilder.met_formula.Goals as goal

pub returns : goal.returns
returns g c =
    let condition = g.C.MetConditions.condition_of c.args.self.now.conditions.now in
    let formula = λ (row : Bor VariantRow). condition c.args.self.now.name.now row.now.when in
    c.some.ensures formula (λ x r says. search rules)
