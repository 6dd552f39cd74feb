-- What is wrong with a file: each kind of fault is looked for over the whole file before the next.
use Rattle.std.specs.Prelude.{◌≡◌, ◌⊎◌, ℕ, List, Ok, Err}
use Rattle.serde_json.specs.Data.{Data}
use Rattle.json_readers.specs.Json.{IsJson, IsNoJson}
use Rattle.json_readers.specs.declared.fault.Misfit.{Misfit}
use Rattle.reuse_db.specs.Databases.{IsDatabaseFault}
use Rattle.reuse_db.specs.declared.fault.DbFault.{DbFault}
use Rattle.reuse_db.specs.declared.fault.DbFault.TheVariants.{NotJson, WrongKind, OutOfMemory}
use Rattle.reuse_db.specs.declared.record.Record.{Record}
use Rattle.record_reader.specs.Files.{records_at}

-- the first value that has not its form
abbrev pub IsMisfit : Data → DbFault → Type 0
IsMisfit d fault = (misfit : Misfit) × (records_at d ≡ Err misfit) × (fault ≡ WrongKind misfit.at)

-- the fault of a value: the first that has not its form, or else a fault of the records
abbrev pub IsFaultOf : Data → DbFault → Type 0
IsFaultOf d fault = (fault ≡ OutOfMemory) ⊎ IsMisfit d fault
    ⊎ ((records : List Record) × (records_at d ≡ Ok records) × IsDatabaseFault records fault)

-- the bytes are no JSON text, or that of a value with this fault; want of memory may come instead
abbrev pub IsTextFault : List ℕ → DbFault → Type 0
IsTextFault bytes fault = (fault ≡ OutOfMemory) ⊎ ((fault ≡ NotJson) × IsNoJson bytes) ⊎ ((d : Data) × IsJson bytes d × IsFaultOf d fault)
