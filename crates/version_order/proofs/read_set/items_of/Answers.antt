use Rattle.std.proofs.Common.{length, sym, ap, subst, ◌∙◌, arith}
use Rattle.std.proofs.lemmas.List.{nil_from_length}
use Rattle.version_order.specs.Items.{Reads}
use Rattle.version_order.proofs.FirstLaws.{first_item-le}
use Rattle.version_order.proofs.SoFarLaws.{so_far_all, so_far_more}
use Rattle.version_order.proofs.read_set.items_of.Goals as goal

pub first_item-requires : goal.first_item-requires
first_item-requires c =
    let l = c.loop-items.invariant c.requires.0 c.requires.1 in
    (l.left, l.reads)

pub returns-in_default : goal.returns-in_default
returns-in_default c =
    let none = nil_from_length _ c.in_default.ensures.cases in
    let all = so_far_all _ _ c.loop-items.rest.now c.in_ok-item.item c.loop-items.invariant c.in_ok-item.ensures.item
    (sym c.in_ok-item.ensures.rest ∙ none) c.requires.0 c.requires.1 in
    subst (Reads c.args.text.now) (sym (c.in_ok-push.ensures.ok ∙ all)) c.requires.1

pub loop-items-smaller : goal.loop-items-smaller
loop-items-smaller c = omega (arith, c.in-Some.ensures.cases.1, first_item-le c.loop-items.rest.now, ap length c.in_ok-item.ensures.rest)

pub loop-items-preserved : goal.loop-items-preserved
loop-items-preserved c = λ all reads.
    rw c.in_ok-push.ensures.ok
    (so_far_more c.args.text.now c.loop-items.items c.loop-items.rest.now c.in_ok-item.item c.in-Some.field-0-0.now c.in-Some.next.now
    c.loop-items.invariant c.in_ok-item.ensures.item (sym c.in_ok-item.ensures.rest ∙ c.in-Some.ensures.cases.0) all reads)
