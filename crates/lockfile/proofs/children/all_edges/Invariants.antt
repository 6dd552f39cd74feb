use Rattle.std.proofs.Common.{◌≡◌, ◌++◌, drop}
use Rattle.lockfile.specs.Children.{all_edges}
use Rattle.lockfile.proofs.children.all_edges.Given as goal

abbrev pub invariant-loop-node : goal.invariant-loop-node
invariant-loop-node l = l.edges.items ++ all_edges l.nodes (drop l.node-index l.nodes) ≡ all_edges l.nodes l.nodes
