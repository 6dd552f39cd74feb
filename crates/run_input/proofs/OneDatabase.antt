-- A path names one database at most.
use Rattle.std.proofs.Common.{◌≡◌, ◌≢◌, ℕ, List, [], Bool, true, false, ap, sym, ◌∙◌, Ok, Err}
use Rattle.outside_desk.specs.Files.{Files}
use Rattle.reuse_db.specs.declared.record.Record.{Record}
use Rattle.record_reader.specs.Files.{IsDatabase}
use Rattle.record_reader.specs.Faults.{IsTextFault}
use Rattle.reuse_db.specs.declared.fault.DbFault.{DbFault}
use Rattle.reuse_db.specs.declared.fault.DbFault.TheVariants.{OutOfMemory}
use Rattle.run_answers.specs.Stages.{Is}
use Rattle.run_answers.specs.declared.refusal.Refusal.TheVariants.{BadDatabase}
use Rattle.run_answers.proofs.StageLaws.{IsOne, one_is, one_then}
use Rattle.run_words.specs.Words.{is_dash_path}
use Rattle.run_input.specs.Installed.{database_bytes, DatabaseIn, DatabaseBy, DatabaseAt}

-- what holds of reading databases
pub record ReadsOnce : Type 0 where
  pub reading : (bytes : List ℕ) (a b : List Record) → IsDatabase bytes a → IsDatabase bytes b → a ≡ b
  pub fault : (bytes : List ℕ) (f g : DbFault) → IsTextFault bytes f → IsTextFault bytes g → f ≢ OutOfMemory → g ≢ OutOfMemory → f ≡ g
  pub right : (bytes : List ℕ) (records : List Record) (f : DbFault) → IsDatabase bytes records → IsTextFault bytes f → f ≡ OutOfMemory

one_in : ReadsOnce → (bytes : List ℕ) → IsOne (DatabaseIn bytes)
one_in laws bytes (Ok a) (Ok b) p q = ap Ok (laws.reading bytes a b p q)
one_in laws bytes (Ok a) (Err b) p (f, is, other, same) = absurd (other (laws.right bytes a f p is))
one_in laws bytes (Err a) (Ok b) (f, is, other, same) q = absurd (other (laws.right bytes b f q is))
one_in laws bytes (Err a) (Err b) (f, is, other, same) (g, as_well, not, too) =
    ap Err (same ∙ ap BadDatabase (laws.fault bytes f g is as_well other not) ∙ sym too)

one_by : ReadsOnce → (dash : Bool) (files : Files) (path : List ℕ) → IsOne (DatabaseBy dash files path)
one_by laws true files path = one_is (Ok [])
one_by laws false files path = one_then (Is (database_bytes files path)) DatabaseIn (one_is (database_bytes files path)) (one_in laws)

-- by what reading databases gives
pub one_database : ReadsOnce → (files : Files) (path : List ℕ) → IsOne (DatabaseAt files path)
one_database laws files path = one_by laws (is_dash_path path) files path
