use Rattle.std.proofs.Common.{◌++◌, ◌∷◌, [], List, ℕ, take, sym, ap, ◌∙◌, arith, append_assoc}
use Rattle.version_order.specs.Items.{spell, spell_more}
use Rattle.version_order.proofs.WriteLaws.{front_more, more-take, kept_on_err}
use Rattle.version_order.proofs.write_set.write_more.Goals as goal

pub returns-in_err-write_item-clause-kept : goal.returns-in_err-write_item-clause-kept
returns-in_err-write_item-clause-kept c =
    let sofar = spell_more (take c.loop-item.item-index c.args.items.now) in
    let one = c.in_ok-write_byte.ensures ∙ ap (λ (l : List ℕ). l ++ 44 ∷ []) c.loop-item.invariant
    ∙ append_assoc c.args.out.now.items sofar (44 ∷ []) in
    kept_on_err _ _ _ (front_more _ _ _ _ one c.in_err-write_item.ensures.kept)

pub loop-item-preserved : goal.loop-item-preserved
loop-item-preserved c =
    let so_far = spell_more (take c.loop-item.item-index c.args.items.now) in
    let text = spell c.item-item.result in
    let more = more-take c.args.items.now c.loop-item.item-index c.item-item.result (omega arith) in
    c.in_ok-write_item.ensures.written
    ∙ ap (λ (l : List ℕ). l ++ text) (c.in_ok-write_byte.ensures ∙ ap (λ (l : List ℕ). l ++ 44 ∷ []) c.loop-item.invariant)
    ∙ append_assoc (c.args.out.now.items ++ so_far) (44 ∷ []) text
    ∙ append_assoc c.args.out.now.items so_far (44 ∷ text)
    ∙ ap (λ (l : List ℕ). c.args.out.now.items ++ l) (ap (λ x. so_far ++ 44 ∷ spell x) c.item-item.is ∙ sym more)
