use Rattle.std.proofs.Common.{◌∙◌, arith, sym}
use Rattle.recipe_values.proofs.Texts.{string_plain}
use Rattle.recipe_values.proofs.text.plain_inside.Goals as goal

pub returns-then-has_no_escape : goal.returns-then-has_no_escape
returns-then-has_no_escape c =
    let inner = c.inside-text.ensures.value in
    let all = rw inner at (sym c.has_no_escape.ensures ∙ c.if-has_no_escape.true) in
    rw inner (string_plain c.args.bytes.now c.args.token c.text-slice.result.now c.text-slice.ensures
    (omega (arith, c.prefix.ensures.value)) all)
