use Rattle.std.specs.Prelude.{All}
use Rattle.variant_values.specs.Texts.{IsInByteOrder}
use Rattle.graph_core.specs.declared.node.Node.{Node}
use Rattle.std.proofs.Common.{subst}
use Rattle.run_task.proofs.Elements.{all_with}
use Rattle.run_task.proofs.whole.have_sets.Goals as goal

abbrev HasSets : Node → Type 0
HasSets node = All (λ v. IsInByteOrder v.1) node.variants

pub loop-node-preserved : goal.loop-node-preserved
loop-node-preserved c = λ rest.
    c.loop-node.invariant
    (all_with HasSets c.args.nodes.now c.loop-node.node-index c.node-item.result c.loop-node-test.true c.node-item.is
    (subst (λ vs. All (λ v. IsInByteOrder v.1) vs) c.as_slice.ensures c.are_sets.ensures) rest)
