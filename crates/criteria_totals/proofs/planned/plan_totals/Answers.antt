use Rattle.std.proofs.Common.{◌∙◌, arith}
use Rattle.criteria_totals.proofs.TotalLaws.{small-at}
use Rattle.criteria_totals.proofs.planned.plan_totals.Goals as goal

pub total-top-requires : goal.total-top-requires
total-top-requires c = rw (c.as_slice-terms.ensures ∙ c.terms-item.is)
    (small-at c.args.lists.now c.loop-terms.terms-index _ c.requires (omega arith))

pub plan_number-requires-clause-small : goal.plan_number-requires-clause-small
plan_number-requires-clause-small c = rw (c.as_slice-terms.ensures ∙ c.terms-item.is)
    (small-at c.args.lists.now c.loop-terms.terms-index _ c.requires (omega arith))
