use Rattle.std.proofs.Common.{◌≡◌, drop, find}
use Rattle.reuse_db.specs.Databases.{is_lost, hashes_of}
use Rattle.reuse_db.proofs.database.lost_child.Given as goal

abbrev pub invariant-loop-child : goal.invariant-loop-child
invariant-loop-child l = find (is_lost (hashes_of l.records)) (drop l.child-index l.entry.dependencies)
    ≡ find (is_lost (hashes_of l.records)) l.entry.dependencies
