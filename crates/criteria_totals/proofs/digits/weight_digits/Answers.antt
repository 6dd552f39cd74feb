use Rattle.std.proofs.Common.{◌-◌, ◌+◌, ◌++◌, ◌∷◌, [], ◌∙◌, ap, arith}
use Rattle.criteria_totals.proofs.DigitLoops.{weight-more}
use Rattle.criteria_totals.proofs.digits.weight_digits.Goals as goal

pub loop-i-preserved : goal.loop-i-preserved
loop-i-preserved c = (
  weight-more (c.digit_count-i-end.result - c.loop-i._i) (c.digit_count-i-end.result - (c.loop-i._i + 1)) c.loop-i.left c.args.lit
      c.loop-i.digits.items _ _ (omega arith) c.loop-i.invariant.0 (c.in_ok-push.ensures.items
      ∙ ap (λ d. c.loop-i.digits.items ++ d ∷ []) c.in_ok-repeated.ensures),
  c.loop-i.invariant.1,
)
