use Rattle.std.proofs.Common.{◌≡◌, ◌++◌, drop}
use Rattle.lockfile.specs.Files.{node_names}
use Rattle.lockfile.proofs.file.names_of.Given as goal

abbrev pub invariant-loop-node : goal.invariant-loop-node
invariant-loop-node l = l.names.items ++ node_names (drop l.node-index l.nodes) ≡ node_names l.nodes
