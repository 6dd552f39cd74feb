use Rattle.std.proofs.lemmas.List.{take_all}
use Rattle.virtuals.proofs.OfGraphCore.PathLaws.{edge_ends, numbered_more}
use Rattle.condition_rules.proofs.search.numbered.Goals as goal

pub place_near-parent-requires : goal.place_near-parent-requires
place_near-parent-requires c =
    let edges = c.edges-edge-items.ensures.edges in
    rw c.as_str.ensures (edge_ends c.args.graph.now c.edges-edge-items.ensures.graph _ _ (rw edges at c.loop-edge-test.true)
    (rw edges at c.edge-item.is)).0

pub known_place-child-requires : goal.known_place-child-requires
known_place-child-requires c =
    let edges = c.edges-edge-items.ensures.edges in
    rw c.as_str-in-loop-edge.ensures (edge_ends c.args.graph.now c.edges-edge-items.ensures.graph _ _ (rw edges at c.loop-edge-test.true)
    (rw edges at c.edge-item.is)).1

pub loop-edge-preserved : goal.loop-edge-preserved
loop-edge-preserved c = rw c.in_ok-push.ensures.items
    (numbered_more _ _ _ _ _ _ _ c.loop-edge-test.true c.edge-item.is c.loop-edge.invariant
    (rw c.as_str.ensures at c.place_near-parent.ensures) (rw c.as_str-in-loop-edge.ensures at c.known_place-child.ensures))

pub returns : goal.returns
returns c = rw (take_all _ _ c.loop-edge-test.false, c.edges-edge-items.ensures.edges) at c.loop-edge.invariant
