use Rattle.std.proofs.Common.{ap, ◌∙◌, filter}
use Rattle.std.proofs.lemmas.Result.{IfOk-weaker}
use Rattle.std.specs.Str.{bytes_eq}
use Rattle.condition_rules.specs.Worlds.{World, recipe_of, rows}
use Rattle.rule_formulas.proofs.definitions.PackageDefinitions.of.Goals as goal

pub returns : goal.returns
returns c = rw (← c.self.view_is)
    (IfOk-weaker c.of.result _ _ (λ found are. are
    ∙ ap (λ (w : World). filter (λ row. bytes_eq row.name c.args.variant.now) (rows (λ recipe. recipe.variants) (recipe_of w c.self.inside.found.1)))
    c.self.invariant)
    c.of.ensures)
