use Rattle.std.proofs.Common.{◌≡◌, drop}
use Rattle.lockfile.specs.Faults.{wrongly_hashed}
use Rattle.lockfile.proofs.checks.check_hashes.Given as goal

abbrev pub invariant-loop-node : goal.invariant-loop-node
invariant-loop-node l = wrongly_hashed (drop l.node-index l.nodes) ≡ wrongly_hashed l.nodes
