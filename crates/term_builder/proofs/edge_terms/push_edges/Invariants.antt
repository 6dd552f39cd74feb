use Rattle.std.proofs.Common.{◌≡◌, ◌++◌, flat_map, drop}
use Rattle.cost_terms.specs.Terms.{edge_terms}
use Rattle.cost_terms.specs.Terms.{compared}
use Rattle.term_builder.proofs.edge_terms.push_edges.Given as goal

abbrev pub invariant-loop-edge : goal.invariant-loop-edge
invariant-loop-edge l =
    l.terms.items ++ flat_map (edge_terms (compared l.attribute) l.fn.table l.fn.block) (drop l.edge-index l.fn.table.edges)
    ≡ l.fn.terms.items ++ flat_map (edge_terms (compared l.attribute) l.fn.table l.fn.block) l.fn.table.edges
