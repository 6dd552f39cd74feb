use Rattle.std.proofs.Common.{◌≡◌, ◌++◌, drop}
use Rattle.graph_judge.proofs.names.copied_nodes.Given as goal

abbrev pub invariant-loop-node : goal.invariant-loop-node
invariant-loop-node l = l.copies.items ++ drop l.node-index l.nodes ≡ l.nodes
