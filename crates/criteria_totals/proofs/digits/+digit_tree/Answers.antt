use Rattle.std.proofs.Common.{◌∙◌, ap, sym}
use Rattle.clause_circuits.specs.Trees.{halved}
use Rattle.criteria_totals.specs.Digits.{digits_on, digit_count}
use Rattle.criteria_totals.proofs.DigitLoops.{tree-none, tree-leaf, tree-node}
use Rattle.criteria_totals.proofs.digits.+digit_tree.Goals as goal

pub returns-in-empty : goal.returns-in-empty
returns-in-empty t c = tree-none c.args.plan.now c.args.terms.now _ c.in-empty.len_below c.new.ensures.items

pub returns-in_ok-digits-in-len1 : goal.returns-in_ok-digits-in-len1
returns-in_ok-digits-in-len1 t c = tree-leaf c.args.plan.now c.args.terms.now _ _ c.in-len1.len_below c.in-len1.len_at_least
    c.in_ok-digits-in-len1.ensures

pub returns-in_ok-digits-in_default : goal.returns-in_ok-digits-in_default
returns-in_ok-digits-in_default t c = tree-node c.args.plan.now c.digit_tree.new.plan c.digit_tree-in_default.new.plan c.args.terms.now
    c.in_ok-a-in_default.a.items c.in_ok-b-in_default.b.items _ _ c.in_default.len_at_least
    (ap (λ ts. digits_on c.args.plan.now (halved ts)) (sym c.split_at.ensures.front) ∙ c.in_ok-a-in_default.ensures)
    (ap (λ ts. digits_on c.digit_tree.new.plan (halved ts)) (sym c.split_at.ensures.back) ∙ c.in_ok-b-in_default.ensures)
    (c.digit_count-count.ensures ∙ ap digit_count c.total.ensures)
    (rw (← c.as_slice.ensures.value, ← c.as_slice-in_default.ensures.value) c.in_ok-digits-in_default.ensures)
