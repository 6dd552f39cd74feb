use Rattle.std.proofs.Common.{◌≡◌, drop}
use Rattle.reuse_db.specs.Databases.{dangling, hashes_of}
use Rattle.reuse_db.proofs.database.first_dangling.Given as goal

abbrev pub invariant-loop-entry : goal.invariant-loop-entry
invariant-loop-entry l = dangling (hashes_of l.records) (drop l.entry-index l.records) ≡ dangling (hashes_of l.records) l.records
