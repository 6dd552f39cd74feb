-- Marks of clauses by their ids, and names of them.
use Rattle.std.specs.Prelude.{ℕ, ◌<◌, List, Option, Some, None, slice_get, unwrap_or}
use Rattle.proof_log.specs.declared.line.Line.{Line}
use Rattle.log_trim.specs.Trimmed.{id_of}
pub use Rattle.proof_log.specs.Marks.{AreMarks}

-- there is a mark for the clause that the line makes known
abbrev pub IsBelow : ℕ → Option ℕ → Type 0
IsBelow size None = Unit {0}
IsBelow size (Some id) = id < size

abbrev pub HasRoom : ℕ → Line → Type 0
HasRoom size l = IsBelow size (id_of l)

-- the name of an id: one without a name keeps its own
abbrev pub name_in : List ℕ → ℕ → ℕ
name_in names x = unwrap_or (slice_get names x) x
