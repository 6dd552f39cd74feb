use Rattle.std.proofs.Common.{◌≡◌, drop}
use Rattle.reuse_db.specs.Databases.{differing}
use Rattle.reuse_db.proofs.database.check_hashes.Given as goal

abbrev pub invariant-loop-entry : goal.invariant-loop-entry
invariant-loop-entry l = differing (drop l.entry-index l.records) ≡ differing l.records
