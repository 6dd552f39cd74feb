-- How much a database of some length may hold.
use Rattle.std.specs.Prelude.{◌≡◌, ℕ, ◌+◌, ◌≤◌, ◌^◌, true, List, length}
use Rattle.std.specs.List.{sum_by}
use Rattle.reuse_db.specs.declared.record.Record.{Record}
use Rattle.record_reader.specs.Files.{IsDatabase}
use Rattle.problem.specs.Limits.{are_few_records, record_members}

-- the records, their dependencies and their variant values are no more than the bytes
abbrev pub DatabasesHoldRecords : Type 0
DatabasesHoldRecords = (bytes : List ℕ) (records : List Record) → IsDatabase bytes records
    → length records + sum_by record_members records ≤ length bytes

-- so those of a file within its limit are within theirs
abbrev pub DatabasesAreFew : Type 0
DatabasesAreFew = (bytes : List ℕ) (records : List Record) → IsDatabase bytes records → length bytes ≤ 2 ^ 26
    → are_few_records records ≡ true
