use Rattle.lockfile.proofs.EdgeLaws.{given_ends, provided_there}
use Rattle.lockfile.proofs.graph.graph_of.Goals as goal

pub add_edges-requires-clause-ends : goal.add_edges-requires-clause-ends
add_edges-requires-clause-ends c = given_ends c.as_slice-nodes.result.now c.in_ok-graph.graph c.as_slice.result.now
    c.in_ok-edges.edges.items c.as_slice.ensures.value c.in_ok-edges.ensures c.in_ok-graph.ensures.nodes

pub add_providers-requires-clause-nodes : goal.add_providers-requires-clause-nodes
add_providers-requires-clause-nodes c =
    provided_there c.as_slice-nodes.result.now c.in_ok-graph.graph c.add_edges.new.graph c.args.file.now c.as_slice-2.result.now
    c.as_slice-nodes.ensures c.in_ok-graph.ensures.nodes c.in_ok-add_edges.ensures.nodes c.as_slice-2.ensures
    c.requires.providers
