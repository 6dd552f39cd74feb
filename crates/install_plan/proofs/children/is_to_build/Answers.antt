use Rattle.std.specs.Cmp.Lexicographic.{nat_list_cmp_total}
use Rattle.std.proofs.lemmas.Bool.{false≢true}
use Rattle.graph_core.specs.Graphs.{name_of}
use Rattle.graph_core.proofs.OfKeyedLists.KeyedLaws.{lacks_key}
use Rattle.graph_core.proofs.OfVariantValues.Texts2.{ties_are_equal}
use Rattle.install_plan.proofs.ChildLaws.{place_tells, built_is_node}
use Rattle.install_plan.proofs.children.is_to_build.Goals as goal

pub returns-in-Ok : goal.returns-in-Ok
returns-in-Ok c =
    rw c.is_built.ensures (place_tells c.args.graph.now c.in-Ok.ensures.graph c.args.name.now c.in-Ok.place c.index-nodes-place.result
    c.in-Ok.ensures.place (rw c.nodes.ensures.nodes at c.index-nodes-place.is))

pub returns-in-Err : goal.returns-in-Err
returns-in-Err c = (
  λ t. absurd (false≢true t),
  λ built. absurd (lacks_key nat_list_cmp_total ties_are_equal name_of c.args.graph.now.nodes c.args.name.now _ c.in-Err.ensures.place
      (built_is_node c.args.graph.now c.in-Err.ensures.graph c.args.name.now built)),
)
