use Rattle.graph_core.proofs.graph.Graph.has_node.Goals as goal

pub returns : goal.returns
returns c = rw (← c.self.view_is, ← c.as_slice.ensures.value) c.has_key.ensures
