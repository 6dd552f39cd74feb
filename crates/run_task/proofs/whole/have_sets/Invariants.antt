use Rattle.std.proofs.Common.{drop}
use Rattle.std.specs.Prelude.{All}
use Rattle.variant_values.specs.Texts.{IsInByteOrder}
use Rattle.graph_core.specs.declared.node.Node.{Node}
use Rattle.run_task.proofs.whole.have_sets.Given as goal

abbrev HasSets : Node → Type 0
HasSets node = All (λ v. IsInByteOrder v.1) node.variants

abbrev pub invariant-loop-node : goal.invariant-loop-node
invariant-loop-node l = All HasSets (drop l.node-index l.nodes) → All HasSets l.nodes
