use Rattle.std.proofs.Common.{◌∙◌, sym}
use Rattle.recipe_values.proofs.Segments.{last_kept, last_left}
use Rattle.recipe_values.proofs.brackets.segments.Goals as goal

pub returns-then-is_empty : goal.returns-then-is_empty
returns-then-is_empty c =
    let is = sym c.in_ok-push.ensures.ok ∙ c.in-Some.ensures in
    sym (last_left _ _ c.in-Some.last is (sym c.is_empty.ensures ∙ c.if-is_empty.true))

pub returns-in_ok-push_last-in-Some : goal.returns-in_ok-push_last-in-Some
returns-in_ok-push_last-in-Some c =
    let is = sym c.in_ok-push.ensures.ok ∙ c.in-Some.ensures in
    c.in_ok-push_last-in-Some.ensures.ok ∙ sym (last_kept _ _ c.in-Some.last is (sym c.is_empty.ensures ∙ c.if-is_empty.false))
