use Rattle.std.proofs.Common.{◌≡◌, ◌-◌, ◌+◌, ap, ◌∙◌, ◌^◌, inl, inr, arith}
use Rattle.criteria_totals.proofs.SpellingLaws.{binary-more}
use Rattle.criteria_totals.proofs.values.push_binary.Goals as goal
use Rattle.criteria_totals.proofs.values.push_binary.Goals.{then-reached, else-reached}

pub loop-i-preserved : goal.loop-i-preserved
loop-i-preserved c =
    let w = c.args.width - (c.loop-i.i + 1) in
    let same : c.args.width - 1 - c.loop-i.i ≡ w = omega arith in
    binary-more (c.args.width - c.loop-i.i) w c.loop-i.left c.pow-place.result c.if-reached.left _ _ _ (omega arith) (c.pow-place.ensures
    ∙ ap (λ k. 2 ^ k) same)
    (elim c.if-reached.branch [
      | then-reached w ↦ inl (w.if-reached.true, w.left-is)
      | else-reached w ↦ inr (w.if-reached.false, w.left-is)
    ])
    c.loop-i.invariant c.in_ok-push.ensures.items
