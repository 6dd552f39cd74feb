use Rattle.std.proofs.Common.{◌∙◌}
use Rattle.recipe_values.proofs.Digits.{number_utf8}
use Rattle.recipe_values.proofs.values.number.Goals as goal

pub returns : goal.returns
returns c =
    let e = c.as_str.ensures.value ∙ c.in_ok-digits.ensures.ok (number_utf8 c.args.w.now c.requires) in
    rw e at c.new.ensures
