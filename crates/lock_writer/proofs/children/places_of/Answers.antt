use Rattle.graph_core.specs.Graphs.{HasNode}
use Rattle.graph_core.specs.declared.node.Edge.{Edge}
use Rattle.reachability.specs.Places.{IsAt}
use Rattle.lock_writer.specs.Known.{names_of}
use Rattle.lock_writer.proofs.KnownLaws.{all_at, zip_more}
use Rattle.lock_writer.proofs.children.places_of.Goals as goal

pub known_place-requires : goal.known_place-requires
known_place-requires c =
    rw c.as_str.ensures (all_at (λ (e : Edge). HasNode c.args.graph.now e.child) c.args.edges.now c.loop-edge.edge-index c.edge-item.result
    c.requires c.loop-edge-test.true c.edge-item.is)

pub loop-edge-preserved : goal.loop-edge-preserved
loop-edge-preserved c = rw c.in_ok-push.ensures.ok
    (zip_more (λ (e : Edge) place. IsAt (names_of c.args.graph.now) e.child place) c.args.edges.now c.loop-edge.edge-index
    c.edge-item.result c.loop-edge.places _ c.loop-edge-test.true c.edge-item.is c.loop-edge.invariant
    (rw c.as_str.ensures at c.known_place.ensures))
