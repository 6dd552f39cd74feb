use Rattle.std.proofs.lemmas.Result.{IfOk-weaker}
use Rattle.clause_circuits.proofs.Composed.{Extends-refl}
use Rattle.ranked_costs.proofs.Lists.{items-below, items-small, are-cost-bits, rank-built}
use Rattle.ranked_costs.proofs.totals.rank_costs.Goals as goal

pub define_totals-requires-clause-in_range : goal.define_totals-requires-clause-in_range
define_totals-requires-clause-in_range c =
    items-below c.args.problem.now c.args.table.now c.args.values.now c.args.order.now _ _ _ _ c.in_ok-held.ensures c.as_slice.ensures.value
    c.in_ok-lists.ensures c.as_slice-2.ensures.value c.args.clauses.now.vars c.requires.table c.requires.values

pub define_totals-requires-clause-small : goal.define_totals-requires-clause-small
define_totals-requires-clause-small c =
    items-small c.args.problem.now c.args.table.now c.args.values.now c.args.order.now _ _ _ _ c.in_ok-held.ensures c.as_slice.ensures.value
    c.in_ok-lists.ensures c.as_slice-2.ensures.value c.requires.small

pub returns-in_err-held-clause-extends : goal.returns-in_err-held-clause-extends
returns-in_err-held-clause-extends c = Extends-refl c.args.clauses.now

pub returns-in_err-lists-clause-extends : goal.returns-in_err-lists-clause-extends
returns-in_err-lists-clause-extends c = Extends-refl c.args.clauses.now

pub returns-clause-built : goal.returns-clause-built
returns-clause-built c = IfOk-weaker c.define_totals.result _ _ (λ bits built.
    rank-built c.args.problem.now c.args.table.now c.args.values.now c.args.order.now _ _ _ _ c.in_ok-held.ensures c.as_slice.ensures.value
    c.in_ok-lists.ensures c.as_slice-2.ensures.value c.args.clauses.now _ bits built) c.define_totals.ensures.built

pub returns-clause-bits : goal.returns-clause-bits
returns-clause-bits c =
    IfOk-weaker c.define_totals.result _ _ (λ bits totals.
    are-cost-bits c.args.problem.now c.args.table.now c.args.values.now c.args.order.now _ _ _ _ c.in_ok-held.ensures
    c.as_slice.ensures.value
    c.in_ok-lists.ensures c.as_slice-2.ensures.value c.args.clauses.now _ bits.lits bits.tops c.requires.small totals)
    c.define_totals.ensures.totals
