use Rattle.std.proofs.Common.{◌≡◌, drop}
use Rattle.graph_core.specs.Graphs.{ends_of, pair_cmp}
use Rattle.lockfile.specs.Named.{Collects}
use Rattle.lockfile.proofs.graph.add_edges.Given as goal

abbrev pub invariant-loop-edge : goal.invariant-loop-edge
invariant-loop-edge l = record {
  edges : Collects pair_cmp ends_of l.graph.edges (drop l.edge-index l.edges) l.edges;
  nodes : l.graph.nodes ≡ l.fn.graph.nodes;
  providers : l.graph.providers ≡ l.fn.graph.providers;
}
