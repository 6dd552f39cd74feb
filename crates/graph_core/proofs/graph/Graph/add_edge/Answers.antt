use Rattle.std.proofs.Common.{◌≡◌, refl, sym, ap, ◌∙◌, subst, List}
use Rattle.graph_core.specs.declared.node.Edge.{Edge}
use Rattle.graph_core.specs.Graphs.{Content, IsGraph, HasNode, ends_of, pair_cmp, with_edge}
use Rattle.keyed_lists.specs.Keyed.{IsGapFor}
use Rattle.graph_core.proofs.PairLaws.{pair_total, pair_exact}
use Rattle.graph_core.proofs.GraphLaws.{graph-with_edge}
use Rattle.keyed_lists.proofs.KeyedLaws.{insert-at_gap, place_known, find_gap, told_false, told_true}
use Rattle.graph_core.proofs.graph.Graph.add_edge.Goals as goal

ends : (c : goal.In_ok-insert-in-Err) → HasNode c.args.self.now c.args.edge.parent × HasNode c.args.self.now c.args.edge.child
ends c = c.if-not-has_ends.ensures.0 refl

pub returns-in-Ok-clause-added : goal.returns-in-Ok-clause-added
returns-in-Ok-clause-added c =
    told_false (λ h. place_known pair_total pair_exact ends_of _ _ _ (rw (c.as_str.ensures, c.as_str-2.ensures) at c.in-Ok.ensures.place)
    h.0)

-- ---- the edge is put in the gap

gap : (c : goal.In_ok-insert-in-Err) → IsGapFor pair_cmp ends_of c.self.inside.edges.items (ends_of c.args.edge) c.in-Err.place
gap c = rw (c.as_str.ensures, c.as_str-2.ensures, ← c.self.view_is) at c.in-Err.ensures.place

is : (c : goal.In_ok-insert-in-Err) → record {
  nodes = c.self.inside.nodes.items;
  edges = c.insert.new.self.items;
  providers =
      c.self.inside.providers.items;
} ≡ with_edge c.args.self.now c.args.edge
is c =
    let edges = c.in_ok-insert-in-Err.ensures.items ∙ insert-at_gap pair_total pair_exact ends_of _ _ _ (gap c) in
    let graph_of : List Edge → Content = λ l. record {
      nodes = c.self.inside.nodes.items;
      edges = l;
      providers =
          c.self.inside.providers.items;
    } in
    ap graph_of edges ∙ ap (λ g. with_edge g c.args.edge) c.self.view_is

pub invariant_of-self-in-Err : goal.invariant_of-self-in-Err
invariant_of-self-in-Err c = subst IsGraph (sym (is c)) (graph-with_edge _ c.in-Err.ensures.graph _ (ends c).0 (ends c).1)

pub returns-in_ok-insert-in-Err-clause-added : goal.returns-in_ok-insert-in-Err-clause-added
returns-in_ok-insert-in-Err-clause-added c =
    told_true (
      find_gap pair_total pair_exact ends_of _ _ _ (rw (c.as_str.ensures, c.as_str-2.ensures) at c.in-Err.ensures.place),
      (ends c).0,
      (ends c).1,
    )

pub returns-in_ok-insert-in-Err-clause-new : goal.returns-in_ok-insert-in-Err-clause-new
returns-in_ok-insert-in-Err-clause-new c = is c
