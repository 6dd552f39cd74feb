-- The records that DATABASE names, or the refusal that is due first.
use Rattle.std.specs.Prelude.{◌≡◌, ◌≢◌, ℕ, List, [], Bool, true, false, Result, Ok, Err}
use Rattle.outside_desk.specs.Files.{Files}
use Rattle.reuse_db.specs.declared.record.Record.{Record}
use Rattle.record_reader.specs.Files.{IsDatabase}
use Rattle.record_reader.specs.Faults.{IsTextFault}
use Rattle.reuse_db.specs.declared.fault.DbFault.{DbFault}
use Rattle.reuse_db.specs.declared.fault.DbFault.TheVariants.{OutOfMemory}
use Rattle.run_answers.specs.Stages.{Is, Then}
use Rattle.run_answers.specs.declared.refusal.Refusal.{Refusal}
use Rattle.run_answers.specs.declared.refusal.Refusal.TheVariants as refusals
use Rattle.run_input.specs.Bytes.{bytes_at}
use Rattle.run_input.specs.declared.file.WholeFile.TheVariants as kinds
use Rattle.run_words.specs.Words.{is_dash_path}

-- the bytes of the file at the path
abbrev pub database_bytes : Files → List ℕ → Result (List ℕ) Refusal
database_bytes files path = bytes_at files path kinds.Database

-- the records that a file says, or its fault
abbrev pub DatabaseIn : List ℕ → Result (List Record) Refusal → Type 0
DatabaseIn bytes (Ok records) = IsDatabase bytes records
DatabaseIn bytes (Err refusal) = (f : DbFault) × IsTextFault bytes f × (f ≢ OutOfMemory) × (refusal ≡ refusals.BadDatabase f)

-- `-` is no record, and no file
abbrev pub DatabaseBy : Bool → Files → List ℕ → Result (List Record) Refusal → Type 0
DatabaseBy true files path = Is (Ok [])
DatabaseBy false files path = Then (Is (database_bytes files path)) DatabaseIn

-- the records that a path names
abbrev pub DatabaseAt : Files → List ℕ → Result (List Record) Refusal → Type 0
DatabaseAt files path = DatabaseBy (is_dash_path path) files path
