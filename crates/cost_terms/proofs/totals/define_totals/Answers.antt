use Rattle.clause_circuits.proofs.Composed.{Extends-trans}
use Rattle.cost_terms.proofs.Steps.{lists_at, built-at, are-totals, both-ok}
use Rattle.cost_terms.proofs.totals.define_totals.Goals as goal

pub totals-requires-clause-in_range : goal.totals-requires-clause-in_range
totals-requires-clause-in_range c = rw c.as_slice.ensures.value
    ((lists_at c.args.clauses.now _ c.args.lists.now _ c.requires.in_range c.in_ok-terms.ensures.built).below)

pub totals-requires-clause-small : goal.totals-requires-clause-small
totals-requires-clause-small c = rw c.as_slice.ensures.value
    ((lists_at c.args.clauses.now _ c.args.lists.now _ c.requires.in_range c.in_ok-terms.ensures.built).small c.requires.small)

pub returns-clause-extends : goal.returns-clause-extends
returns-clause-extends c = Extends-trans _ _ _ c.lists_of.ensures.extends c.totals.ensures.extends

pub returns-clause-built : goal.returns-clause-built
returns-clause-built c = both-ok c.totals.result _ _ _ (λ bits b m. built-at c.args.clauses.now _ _ c.args.lists.now _ bits.lits bits.tops
    c.in_ok-terms.ensures.built (rw c.as_slice.ensures.value at b) (rw c.as_slice.ensures.value at m)) c.totals.ensures.built
    c.totals.ensures.tops

pub returns-clause-totals : goal.returns-clause-totals
returns-clause-totals c = both-ok c.totals.result _ _ _
    (λ bits t m. are-totals c.args.clauses.now _ _ c.args.lists.now _ bits.lits bits.tops
    (lists_at c.args.clauses.now _ c.args.lists.now _ c.requires.in_range c.in_ok-terms.ensures.built) (rw c.as_slice.ensures.value at t)
    (rw c.as_slice.ensures.value at m)) c.totals.ensures.totals c.totals.ensures.tops
