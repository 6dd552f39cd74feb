use Rattle.std.proofs.Common.{◌≡◌, ◌∙◌, sym, ap, refl}
use Rattle.std.specs.List.{insert}
use Rattle.variant_values.specs.Texts.{IsInByteOrder, IsGapFor, with_text}
use Rattle.variant_values.proofs.Texts.{adds_text, with_text_in_order, insert-at_gap, gap_lacks, with_known}
use Rattle.variant_values.proofs.value_set.ValueSet.insert.Goals as goal

-- ---- the set has the text

pub returns-in-Ok-clause-set : goal.returns-in-Ok-clause-set
returns-in-Ok-clause-set c = sym (with_known _ _ c.in-Ok.ensures.ordered (rw c.as_str.ensures at c.in-Ok.ensures.found))

-- ---- the text is put in the gap

gap : (c : goal.In_ok-insert-in-Err) → IsGapFor c.args.self.now c.args.value c.in-Err.place
gap c = rw c.as_str.ensures at c.in-Err.ensures.absent

items : (c : goal.In_ok-insert-in-Err) → c.insert.new.self.items ≡ with_text c.args.self.now c.args.value
items c = c.in_ok-insert-in-Err.ensures.items ∙ ap (λ l. insert l c.in-Err.place c.args.value) c.self.view_is ∙ insert-at_gap _ _ _ (gap c)

ordered : (c : goal.In_ok-insert-in-Err) → IsInByteOrder c.insert.new.self.items
ordered c = rw (items c) (with_text_in_order _ _ c.in-Err.ensures.ordered)

pub invariant_of-self-in-Err : goal.invariant_of-self-in-Err
invariant_of-self-in-Err c = ordered c

pub returns-in_ok-insert-in-Err-clause-new : goal.returns-in_ok-insert-in-Err-clause-new
returns-in_ok-insert-in-Err-clause-new c = (λ _. gap_lacks _ _ _ (gap c), λ _. refl)

pub returns-in_ok-insert-in-Err-clause-texts : goal.returns-in_ok-insert-in-Err-clause-texts
returns-in_ok-insert-in-Err-clause-texts c = rw (items c) (adds_text c.args.self.now c.args.value)

pub returns-in_ok-insert-in-Err-clause-set : goal.returns-in_ok-insert-in-Err-clause-set
returns-in_ok-insert-in-Err-clause-set c = items c

pub returns-in_ok-insert-in-Err-clause-ordered : goal.returns-in_ok-insert-in-Err-clause-ordered
returns-in_ok-insert-in-Err-clause-ordered c = ordered c

pub returns-in_ok-insert-in-Err-clause-known : goal.returns-in_ok-insert-in-Err-clause-known
returns-in_ok-insert-in-Err-clause-known c = λ has. absurd (gap_lacks _ _ _ (gap c) has)
