use Rattle.std.proofs.Common.{◌≡◌, drop}
use Rattle.variant_values.specs.Texts.{byte_cmp}
use Rattle.graph_core.specs.Graphs.{virtual_of}
use Rattle.lockfile.specs.Named.{Collects}
use Rattle.lockfile.proofs.graph.add_providers.Given as goal

abbrev pub invariant-loop-provider : goal.invariant-loop-provider
invariant-loop-provider l = record {
  providers : Collects byte_cmp virtual_of l.graph.providers (drop l.provider-index l.providers) l.providers;
  nodes : l.graph.nodes ≡ l.fn.graph.nodes;
  edges : l.graph.edges ≡ l.fn.graph.edges;
}
