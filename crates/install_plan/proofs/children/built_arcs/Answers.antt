use Rattle.std.proofs.Common.{sym, ◌∙◌}
use Rattle.std.proofs.lemmas.Bool.{false≢true}
use Rattle.graph_core.proofs.PathLaws.{edge_ends}
use Rattle.install_plan.proofs.ChildLaws.{arcs_more, arcs_same}
use Rattle.install_plan.proofs.children.built_arcs.Goals as goal
use Rattle.install_plan.proofs.children.built_arcs.Goals.{then-joins_built+in_ok-push, else-joins_built}

pub known_place-parent-requires : goal.known_place-parent-requires
known_place-parent-requires c =
    let edges = c.edges-edge-items.ensures.edges in
    rw c.as_str.ensures (edge_ends c.args.graph.now c.edges-edge-items.ensures.graph _ _ (rw edges at c.loop-edge-test.true)
    (rw edges at c.edge-item.is)).0

pub known_place-child-requires : goal.known_place-child-requires
known_place-child-requires c =
    let edges = c.edges-edge-items.ensures.edges in
    rw c.as_str-then-joins_built.ensures (edge_ends c.args.graph.now c.edges-edge-items.ensures.graph _ _
    (rw edges at c.loop-edge-test.true)
    (rw edges at c.edge-item.is)).1

pub loop-edge-preserved : goal.loop-edge-preserved
loop-edge-preserved c =
    let edges = c.edges-edge-items.ensures.edges in
    let lt = rw edges at c.loop-edge-test.true in
    let is = rw edges at c.edge-item.is in
    let so_far = rw edges at c.loop-edge.invariant in
    rw edges (elim c.if-joins_built.branch [
      | then-joins_built+in_ok-push w ↦ rw (w.arcs-is, w.in_ok-push.ensures.items)
          (arcs_more c.args.graph.now c.edges-edge-items.ensures.graph c.args.graph.now.edges c.loop-edge.edge-index c.edge-item.result
          c.loop-edge.arcs.items lt is so_far w.known_place-parent.result w.known_place-child.result
          (rw w.as_str.ensures at w.known_place-parent.ensures) (rw w.as_str-then-joins_built.ensures at w.known_place-child.ensures)
          (c.joins_built.ensures.0 w.if-joins_built.true))
      | else-joins_built w ↦ rw w.arcs-is
          (arcs_same c.args.graph.now c.edges-edge-items.ensures.graph c.args.graph.now.edges c.loop-edge.edge-index c.edge-item.result
          c.loop-edge.arcs.items lt is so_far (λ both. false≢true (sym w.if-joins_built.false ∙ c.joins_built.ensures.1 both)))
    ])
