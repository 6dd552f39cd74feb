use Rattle.std.proofs.Common.{◌-◌, ◌+◌, ◌∙◌, ap, sym, arith}
use Rattle.criteria_totals.specs.Merges.{above, merged_on}
use Rattle.criteria_totals.specs.Digits.{digit_on}
use Rattle.criteria_totals.proofs.DigitLoops.{add-more}
use Rattle.criteria_totals.proofs.digits.add.Goals as goal

pub loop-i-preserved : goal.loop-i-preserved
loop-i-preserved c =
    let q = c.merged.new.plan in
    let carry = c.loop-i.carry.items in
    add-more (c.args.count - c.loop-i.i) (c.args.count - (c.loop-i.i + 1)) c.loop-i.plan q c.merged-in-loop-i.new.plan c.digit.new.plan
    carry c.in_ok-carry.carry.items c.in_ok-here.here.items c.in_ok-all.all.items c.in_ok-digit.field-0
    c.digit_at.result.now c.digit_at-in-loop-i.result.now c.args.a.now c.args.b.now c.loop-i.digits.items _ c.loop-i.i _
    (omega arith) c.loop-i.invariant c.digit_at.ensures c.digit_at-in-loop-i.ensures c.in_ok-here.ensures
    (ap (λ s. merged_on q s carry) (sym c.as_slice.ensures.value)
    ∙ ap (λ s. merged_on q c.as_slice.result.now s) (sym c.as_slice-in-loop-i.ensures.value) ∙ c.in_ok-all.ensures)
    (ap (λ s. digit_on c.merged-in-loop-i.new.plan s) (sym c.as_slice-in-loop-i-2.ensures.value) ∙ c.in_ok-digit.ensures)
    (c.in_ok-carry.ensures.items ∙ c.above.ensures ∙ ap (λ s. above s 3) c.as_slice-in-loop-i-3.ensures.value)
    c.in_ok-push.ensures.items
