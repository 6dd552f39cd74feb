use Rattle.std.proofs.Common.{◌∙◌, ap, sym}
use Rattle.clause_circuits.proofs.Composed.{Extends-refl}
use Rattle.criteria_totals.specs.Totals.{totals_on}
use Rattle.criteria_totals.proofs.TotalLaws.{totals-first, totals-sound, totals-are}
use Rattle.criteria_totals.proofs.planned.totals.Goals as goal

pub returns-in_err-bits-clause-extends : goal.returns-in_err-bits-clause-extends
returns-in_err-bits-clause-extends c = Extends-refl c.args.clauses.now

pub define_plan-requires-clause-first : goal.define_plan-requires-clause-first
define_plan-requires-clause-first c = totals-first c.args.clauses.now c.args.lists.now c.plan_totals.new.plan c.in_ok-bits.bits.lits
    c.requires.in_range c.requires.small (ap (λ p. totals_on p c.args.lists.now) (sym c.new-plan.ensures) ∙ c.in_ok-bits.ensures.built)

pub define_plan-requires-clause-sound : goal.define_plan-requires-clause-sound
define_plan-requires-clause-sound c = totals-sound c.args.clauses.now c.args.lists.now c.plan_totals.new.plan c.in_ok-bits.bits.lits
    c.requires.in_range c.requires.small (ap (λ p. totals_on p c.args.lists.now) (sym c.new-plan.ensures) ∙ c.in_ok-bits.ensures.built)

pub returns-clause-totals : goal.returns-clause-totals
returns-clause-totals c = totals-are c.args.clauses.now c.args.lists.now c.plan_totals.new.plan c.in_ok-bits.bits.lits c.requires.in_range
    c.requires.small (ap (λ p. totals_on p c.args.lists.now) (sym c.new-plan.ensures) ∙ c.in_ok-bits.ensures.built) _
    c.in_ok-define_plan.ensures.ok
