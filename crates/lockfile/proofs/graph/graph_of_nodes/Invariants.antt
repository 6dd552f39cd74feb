use Rattle.std.proofs.Common.{◌≡◌, [], drop}
use Rattle.variant_values.specs.Texts.{byte_cmp}
use Rattle.graph_core.specs.Graphs.{name_of}
use Rattle.lockfile.specs.Locks.{graph_nodes}
use Rattle.lockfile.specs.Named.{Collects}
use Rattle.lockfile.proofs.graph.graph_of_nodes.Given as goal

abbrev pub invariant-loop-node : goal.invariant-loop-node
invariant-loop-node l = record {
  nodes : Collects byte_cmp name_of l.graph.nodes (graph_nodes (drop l.node-index l.nodes)) (graph_nodes l.nodes);
  edges : l.graph.edges ≡ [];
  providers : l.graph.providers ≡ [];
}
