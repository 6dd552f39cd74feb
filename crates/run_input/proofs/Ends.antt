-- Readings that no device made fail.
use Rattle.std.proofs.Common.{ℕ, List, Result, Ok, Err}
use Rattle.outside_desk.specs.Causes.{Counts}
use Rattle.run_answers.specs.Stops.{EndsInReadFault}
use Rattle.run_answers.specs.declared.stop.ReadStop.{ReadStop}
use Rattle.run_answers.specs.declared.stop.ReadStop.TheVariants as reads
use Rattle.run_input.specs.Paths.{FailsAtEntry}

-- no path is told
pub at_entry : {A : Type 0} (repo name : List ℕ) (result : Result A ReadStop) → (EndsInReadFault result → ⊥) → FailsAtEntry repo name result
at_entry repo name (Ok x) none = tt
at_entry repo name (Err (reads.Refused refusal)) none = tt
at_entry repo name (Err reads.NoMemory) none = tt
at_entry repo name (Err (reads.Fault path)) none = absurd (none tt)

-- the count is as it was, or higher
pub counts : {A : Type 0} {F : Type 0} (before now : ℕ) (result : Result A ReadStop) → Counts before now F → (EndsInReadFault result → ⊥)
    → Counts before now (EndsInReadFault result)
counts before now result c none = record { later = c.later; cause = λ ends. absurd (none ends) }
