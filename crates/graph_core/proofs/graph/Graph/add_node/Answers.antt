use Rattle.graph_core.proofs.GraphLaws.{graph-after_node}
use Rattle.graph_core.proofs.graph.Graph.add_node.Goals as goal

pub invariant_of-self : goal.invariant_of-self
invariant_of-self c = graph-after_node _ c.self.invariant _ c.args.node _ c.insert.ensures.new c.insert.ensures.err
