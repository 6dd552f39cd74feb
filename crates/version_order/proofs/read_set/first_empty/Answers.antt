use Rattle.std.proofs.Common.{◌+◌, length, drop, sym, ap, ◌∙◌, arith}
use Rattle.std.proofs.lemmas.List.{drop_all}
use Rattle.version_order.specs.Items.{first_empty, spell, is_empty_range}
use Rattle.version_order.proofs.EmptyLaws.{empty_here, empty_later, empty_none, longer}
use Rattle.version_order.proofs.read_set.first_empty.Goals as goal

pub returns-then-is_empty_range : goal.returns-then-is_empty_range
returns-then-is_empty_range c =
    sym (empty_here c.args.items.now c.loop-item.item-index c.loop-item.place c.item-item.result (omega arith)
    (ap is_empty_range (sym c.item-item.is) ∙ cc)) ∙ c.loop-item.invariant.so_far

pub loop-item-preserved : goal.loop-item-preserved
loop-item-preserved c =
    let is = sym c.item-item.is in
    let len = c.spelled_length.ensures ∙ ap (λ x. length (spell x)) c.item-item.is in
    let later = empty_later c.args.items.now c.loop-item.item-index c.loop-item.place c.item-item.result (omega arith)
    (ap is_empty_range is ∙ cc) in
    let more = longer c.args.items.now c.loop-item.item-index c.item-item.result (omega arith) in
    record {
      so_far = ap (λ n. first_empty n (drop (c.loop-item.item-index + 1) c.args.items.now)) (omega (arith, len)) ∙ sym later
          ∙ c.loop-item.invariant.so_far;
      bound = omega (arith, len, more);
    }

pub returns : goal.returns
returns c =
    let all = drop_all c.loop-item.item-index c.args.items.now (omega arith) in
    sym (empty_none c.loop-item.place) ∙ ap (first_empty c.loop-item.place) (sym all) ∙ c.loop-item.invariant.so_far
