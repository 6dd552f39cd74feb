use Rattle.std.proofs.Common.{sym}
use Rattle.recipe_values.proofs.Texts.{is_text, no_text}
use Rattle.recipe_values.proofs.text.kept.Goals as goal

pub returns-in_ok-new-in-Ok : goal.returns-in_ok-new-in-Ok
returns-in_ok-new-in-Ok c =
    rw c.in_ok-new-in-Ok.ensures (rw (c.in-Ok.ensures.cases.0) (sym (is_text c.args.place c.args.text.now c.in-Ok.ensures.cases.1)))

pub returns-in-Err : goal.returns-in-Err
returns-in-Err c = sym (no_text c.args.place c.args.text.now c.in-Err.ensures.cases.0)
