use Rattle.std.proofs.Common.{◌∙◌, ap, sym}
use Rattle.clause_circuits.specs.Trees.{halved}
use Rattle.criteria_totals.specs.Unary.{unary_on}
use Rattle.criteria_totals.proofs.UnaryLoops.{unary-none, unary-leaf, unary-node}
use Rattle.criteria_totals.proofs.unary.+unary_tree.Goals as goal

pub returns-in-empty : goal.returns-in-empty
returns-in-empty t c = unary-none c.args.plan.now c.args.terms.now _ c.in-empty.len_below c.new.ensures.items

pub returns-in_ok-lits-in-len1 : goal.returns-in_ok-lits-in-len1
returns-in_ok-lits-in-len1 t c = unary-leaf c.args.plan.now c.args.terms.now _ _ c.in-len1.len_below c.in-len1.len_at_least
    c.in_ok-lits-in-len1.ensures

pub returns-in_ok-lits-in_default : goal.returns-in_ok-lits-in_default
returns-in_ok-lits-in_default t c = unary-node c.args.plan.now c.unary_tree.new.plan c.unary_tree-in_default.new.plan c.args.terms.now
    c.in_ok-a-in_default.a.items c.in_ok-b-in_default.b.items c.as_slice.result.now c.as_slice-in_default.result.now _
    c.in_default.len_at_least
    (ap (λ ts. unary_on c.args.plan.now (halved ts)) (sym c.split_at.ensures.front) ∙ c.in_ok-a-in_default.ensures)
    (ap (λ ts. unary_on c.unary_tree.new.plan (halved ts)) (sym c.split_at.ensures.back) ∙ c.in_ok-b-in_default.ensures)
    c.as_slice.ensures.value c.as_slice-in_default.ensures.value c.in_ok-lits-in_default.ensures
