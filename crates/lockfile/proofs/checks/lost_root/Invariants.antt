use Rattle.std.proofs.Common.{◌≡◌, drop}
use Rattle.lockfile.specs.Faults.{lost_root}
use Rattle.lockfile.proofs.checks.lost_root.Given as goal

abbrev pub invariant-loop-root : goal.invariant-loop-root
invariant-loop-root l = lost_root l.nodes (drop l.root-index l.roots) ≡ lost_root l.nodes l.roots
