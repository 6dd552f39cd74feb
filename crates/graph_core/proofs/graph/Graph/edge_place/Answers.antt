use Rattle.std.proofs.Common.{rules}
use Rattle.std.proofs.lemmas.Fn.{always_returns_same}
use Rattle.graph_core.specs.Graphs.{ends_of, pair_cmp}
use Rattle.graph_core.proofs.PairLaws.{pair_total, pair_exact}
use Rattle.keyed_lists.proofs.KeyedLaws.{search_ends}
use Rattle.graph_core.proofs.graph.Graph.edge_place.Goals as goal

pub returns-clause-place : goal.returns-clause-place
returns-clause-place c =
    let facts = c.binary_search_by.ensures in
    let by_order = facts.position (λ x. pair_cmp (ends_of x) (c.args.parent.now, c.args.child.now))
    (always_returns_same _ _ _ (λ a r f called. search rules)) in
    rw (← c.self.view_is, ← c.deref.ensures.value)
    (search_ends pair_total pair_exact ends_of c.deref.result.now (c.args.parent.now, c.args.child.now) c.binary_search_by.result
    (rw c.deref.ensures.value c.self.invariant.edges) facts.bound by_order)
