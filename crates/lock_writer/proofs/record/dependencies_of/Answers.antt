use Rattle.graph_core.specs.Graphs.{HasNode}
use Rattle.graph_core.specs.declared.node.Edge.{Edge}
use Rattle.lock_writer.proofs.KnownLaws.{all_at}
use Rattle.lock_writer.proofs.record.dependencies_of.Goals as goal

pub known_place-place-requires : goal.known_place-place-requires
known_place-place-requires c =
    rw c.as_str.ensures (all_at (λ (e : Edge). HasNode c.args.graph.now e.child) c.args.edges.now c.loop-edge.edge-index c.edge-item.result
    c.requires.children c.loop-edge-test.true c.edge-item.is)
