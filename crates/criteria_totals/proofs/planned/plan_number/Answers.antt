use Rattle.criteria_totals.proofs.TotalLaws.{number-low, number-high}
use Rattle.criteria_totals.proofs.planned.plan_number.Goals as goal

pub returns-then-top-le64 : goal.returns-then-top-le64
returns-then-top-le64 c = rw (number-low c.args.plan.now c.args.terms.now c.args.top c.requires.top c.if-top-le64.true) c.plan_unary.ensures

pub returns-else-top-le64 : goal.returns-else-top-le64
returns-else-top-le64 c = rw (number-high c.args.plan.now c.args.terms.now c.args.top c.requires.top c.if-top-le64.false)
    c.plan_digits.ensures
