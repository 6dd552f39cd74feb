use Rattle.std.proofs.Common.{refl}
use Rattle.std.specs.Str.{bytes_eq}
use Rattle.std.proofs.lemmas.List.{drop_all}
use Rattle.literal_table.specs.declared.block.EdgeLits.{EdgeLits}
use Rattle.node_formulas.specs.Rows.{only_if}
use Rattle.node_formulas.proofs.Steps.{pushed-if, ended}
use Rattle.node_formulas.proofs.children.children_in.Goals as goal

pub returns : goal.returns
returns c =
    ended (λ (e : EdgeLits). only_if (bytes_eq e.parent c.args.name.now) e.child) c.args.edges.now c.args.edges.now c.loop-edge.edge-index
    c.loop-edge.names.items _
    refl (drop_all c.loop-edge.edge-index c.args.edges.now c.loop-edge-test.false) c.loop-edge.invariant
    (pushed-if (λ (e : EdgeLits). bytes_eq e.parent c.args.name.now) (λ (e : EdgeLits). e.child) c.args.edges.now)
