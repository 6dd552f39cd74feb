use Rattle.std.proofs.Common.{◌∙◌, ◌-◌, sym}
use Rattle.std.proofs.lemmas.List.{drop_all}
use Rattle.ranked_costs.proofs.WalkSteps.{not-there, entering, returned}
use Rattle.ranked_costs.proofs.walk.+visit.Goals as goal

pub returns-then-place-len : goal.returns-then-place-len
returns-then-place-len t c =
    not-there c.args.table.now c.args.name.now c.args.rest.now.items c.args.left.now.items c.as_slice.result.now
    c.place_of-place.result c.len.result
    c.as_slice.ensures.value c.place_of-place.ensures (c.len.ensures ∙ sym c.as_slice.ensures.len) c.args.fuel c.if-place-len.true

pub loop-edge-init : goal.loop-edge-init
loop-edge-init t c =
    entering c.args.table.now c.args.name.now c.args.rest.now.items c.args.left.now.items c.as_slice.result.now
    c.place_of-place.result c.len.result
    c.as_slice.ensures.value c.place_of-place.ensures (c.len.ensures ∙ sym c.as_slice.ensures.len) (c.args.fuel - 1)
    c.remove-word.new.self.items
    c.args.table.now.edges c.remove-word.ensures.items

pub returns : goal.returns
returns t c =
    returned c.args.table.now c.args.name.now c.args.rest.now.items c.args.left.now.items c.as_slice.result.now
    c.place_of-place.result c.len.result
    c.as_slice.ensures.value c.place_of-place.ensures (c.len.ensures ∙ sym c.as_slice.ensures.len) c.args.fuel c.loop-edge.edge-index
    c.remove-word.result
    c.loop-edge.rest.items c.loop-edge.left.items c.push.new.self.items c.edges-edge-items.result.now c.if-fuel-eq0.false
    c.if-place-len.false
    c.remove-word.ensures.value c.loop-edge.invariant c.edges-edge-items.ensures.edges
    (drop_all c.loop-edge.edge-index c.edges-edge-items.result.now c.loop-edge-test.false) c.in_ok-push.ensures.items
