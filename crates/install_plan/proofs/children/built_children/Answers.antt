use Rattle.std.proofs.lemmas.Result.{IfOk-weaker}
use Rattle.install_plan.specs.Children.{AreBuiltChildren}
use Rattle.install_plan.proofs.ChildLaws.{are_children, arcs_within}
use Rattle.install_plan.proofs.children.built_children.Goals as goal

pub heads_of-requires : goal.heads_of-requires
heads_of-requires c = rw (c.as_slice.ensures.value, c.nodes.ensures.nodes) (arcs_within c.args.graph.now _ c.in_ok-arcs.ensures)

pub returns-clause-children : goal.returns-clause-children
returns-clause-children c = IfOk-weaker c.heads_of.result _ (λ heads. AreBuiltChildren c.args.graph.now heads.items)
    (λ heads are. are_children c.args.graph.now _ heads.items c.in_ok-arcs.ensures
    (rw (c.as_slice.ensures.value, c.nodes.ensures.nodes) at are))
    c.heads_of.ensures.arcs
