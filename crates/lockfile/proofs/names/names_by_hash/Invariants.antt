use Rattle.std.proofs.Common.{◌-◌, length, drop}
use Rattle.lockfile.specs.Named.{AreNames}
use Rattle.lockfile.proofs.names.names_by_hash.Given as goal

abbrev pub invariant-loop-done : goal.invariant-loop-done
invariant-loop-done l = AreNames (drop (length l.nodes - l.done) l.nodes) l.names
