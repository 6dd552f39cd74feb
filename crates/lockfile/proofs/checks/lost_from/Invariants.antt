use Rattle.std.proofs.Common.{◌≡◌, drop}
use Rattle.lockfile.specs.Faults.{lost_from}
use Rattle.lockfile.proofs.checks.lost_from.Given as goal

abbrev pub invariant-loop-node : goal.invariant-loop-node
invariant-loop-node l = lost_from l.nodes (drop l.node-index l.nodes) ≡ lost_from l.nodes l.nodes
