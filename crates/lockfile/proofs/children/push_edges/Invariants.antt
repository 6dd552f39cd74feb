use Rattle.std.proofs.Common.{◌≡◌, ◌++◌, drop}
use Rattle.std.specs.List.{filter_map}
use Rattle.lockfile.specs.Children.{locked_edge, edges_of, named_by}
use Rattle.lockfile.proofs.children.push_edges.Given as goal

abbrev pub invariant-loop-child : goal.invariant-loop-child
invariant-loop-child l = l.edges.items ++ filter_map (λ d. locked_edge l.node.described.name d (named_by l.nodes d.hash))
    (drop l.child-index l.child-items) ≡ l.fn.edges.items ++ edges_of l.nodes l.node
