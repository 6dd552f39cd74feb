use Rattle.std.proofs.Common.{◌∙◌, length, sym}
use Rattle.std.proofs.lemmas.Bool.{eqb-true}
use Rattle.recipe_values.proofs.Texts.{alone}
use Rattle.recipe_values.proofs.values.joined.Goals as goal

pub returns-in-Some : goal.returns-in-Some
returns-in-Some c =
    let none = eqb-true (length c.args.behind) 0 (sym c.is_empty.ensures ∙ c.if-is_empty.true) in
    rw (alone c.args.bytes.now c.args.token c.in-Some.text.now c.args.behind c.in-Some.ensures none) c.kept.ensures
