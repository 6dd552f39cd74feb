use Rattle.graph_core.specs.Graphs.{edges_from}
use Rattle.graph_core.specs.declared.node.Node.{Node}
use Rattle.lock_writer.specs.Known.{AreChildren}
use Rattle.lock_writer.proofs.KnownLaws.{all_there, zip_more}
use Rattle.lock_writer.proofs.children.children_of.Goals as goal

pub places_of-requires : goal.places_of-requires
places_of-requires c = rw (c.edges_from-edges.ensures, c.as_str.ensures)
    (all_there c.args.graph.now c.nodes-node-items.ensures.graph c.node-item.result.name)

pub loop-node-preserved : goal.loop-node-preserved
loop-node-preserved c = rw c.in_ok-push.ensures.items
    (zip_more (λ (n : Node) places. AreChildren c.args.graph.now (edges_from c.args.graph.now n.name) places) c.nodes-node-items.result.now
    c.loop-node.node-index c.node-item.result c.loop-node.children.items _ c.loop-node-test.true c.node-item.is c.loop-node.invariant
    (rw (c.edges_from-edges.ensures, c.as_str.ensures) at c.in_ok-places_of.ensures))
