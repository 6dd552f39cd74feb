use Rattle.std.proofs.Common.{◌∙◌, ap, take}
use Rattle.clause_circuits.specs.Binary.{size}
use Rattle.criteria_totals.proofs.DigitLoops.{bits-built}
use Rattle.criteria_totals.proofs.bits.plan_digits.Goals as goal

pub returns : goal.returns
returns c = bits-built _ _ _ _ _ _ _ c.in_ok-bits.bits.items c.truncate.new.self.items _ _ _ c.in_ok-sum.ensures c.as_slice.ensures.value
    c.in_ok-bits.ensures
    (c.truncate.ensures.items ∙ ap (λ n. take n c.in_ok-bits.bits.items) (c.size.ensures.value ∙ ap size c.total.ensures))
    c.as_slice-2.ensures.value c.in_ok-lits.ensures c.reverse.ensures.items
