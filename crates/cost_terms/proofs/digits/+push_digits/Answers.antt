use Rattle.std.proofs.Common.{arith, ◌∙◌}
use Rattle.cost_terms.proofs.DigitSteps.{next-fits, unit-fits, digit-step, on-ok}
use Rattle.cost_terms.proofs.digits.+push_digits.Goals as goal

pub overflow_mul-unit : goal.overflow_mul-unit
overflow_mul-unit t c = omega (arith, unit-fits c.args.more c.args.unit c.if-more-eq0.false c.requires)

pub push_digits-requires : goal.push_digits-requires
push_digits-requires t c = (omega (arith, c.if-more-eq0.false), next-fits c.args.more c.args.unit c.if-more-eq0.false c.requires)

pub returns : goal.returns
returns t c = on-ok c.push_digits.result _ _
    (λ more. digit-step c.args.more c.args.unit c.args.choices.now c.as_slice.result.now c.args.terms.now.items _ _ _
    c.if-more-eq0.false c.in_ok-any_odd.ensures (c.as_slice.ensures.value ∙ c.in_ok-halves.ensures) c.in_ok-push.ensures.items more)
    c.push_digits.ensures
