use Rattle.std.proofs.Common.{drop}
use Rattle.variant_values.specs.Texts.{byte_cmp}
use Rattle.keyed_lists.specs.Keyed.{IsInOrder}
use Rattle.graph_core.specs.Graphs.{Text}
use Rattle.lockfile.specs.Locks.{named_hashes}
use Rattle.lockfile.specs.Named.{Collects}
use Rattle.lockfile.proofs.graph.hashes_of.Given as goal

abbrev pub invariant-loop-node : goal.invariant-loop-node
invariant-loop-node l = record {
  order : IsInOrder byte_cmp (λ (h : Text × Text). h.0) l.hashes.items;
  found : Collects byte_cmp (λ (h : Text × Text). h.0) l.hashes.items (named_hashes (drop l.node-index l.nodes)) (named_hashes l.nodes);
}
