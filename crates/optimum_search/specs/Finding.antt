-- What a search finds, and where it stands on the way.
use Rattle.std.specs.Prelude.{◌≡◌, ℕ, ◌+◌, ◌^◌, ◌<◌, ◌≤◌, Bool, true, false, ◌&&◌, nat_lt, nat_le, Option, Some, None, List, [], length, take, slice_range}
use Rattle.std.specs.List.{find}
use Rattle.clause_store.specs.declared.Lit.{Lit}
use Rattle.clause_store.specs.Clauses.{Clauses, clauses_of, AllTrue}
use Rattle.proof_log.specs.Lines.{IsOpen, learnt_in, AllLines}
use Rattle.proof_log.specs.Certificates.{bits_at, IsBelow, HasValue, IsCertificate, IsRefutation, AreOver, IsSpentLog}
use Rattle.clause_solver.specs.Models.{values_in}
use Rattle.clause_solver.specs.Solvers.{SolverValue}
use Rattle.optimum_search.specs.declared.found.Found.{Found}
use Rattle.optimum_search.specs.declared.number.Number.{Number}
use Rattle.optimum_search.specs.declared.found.Found.TheVariants.{Optimal, Refuted, Spent}
pub use Rattle.proof_log.specs.Certificates.{MeetsAll}

-- a model of all clauses with a certificate of its bits, a refutation, or a log that spent the budget;
-- what is learnt is over the variables of the clauses, so that the log may be written, and within the budget but for the last
abbrev pub IsFound : Clauses → List Lit → ℕ → Found → Type 0
IsFound s bits budget (Optimal model log) =
    (length model ≡ s.vars) × MeetsAll (values_in model) s
    × IsCertificate s.vars (clauses_of s.entries) bits (bits_at (values_in model) bits) log × AreOver s.vars log
    × (learnt_in log ≤ budget)
IsFound s bits budget (Refuted log) = IsRefutation s.vars (clauses_of s.entries) bits log × AreOver s.vars log × (learnt_in log ≤ budget)
IsFound s bits budget (Spent log) = IsSpentLog s.vars (clauses_of s.entries) bits budget log

-- no assignment that meets the clauses has smaller bits than the model, or none meets them, or the budget was small
abbrev pub IsBest : Clauses → List Lit → ℕ → Found → Type 0
IsBest s bits budget (Optimal model log) = (v : ℕ → Bool) → MeetsAll v s → IsBelow (bits_at v bits) (bits_at (values_in model) bits) → ⊥
IsBest s bits budget (Refuted log) = (v : ℕ → Bool) → MeetsAll v s → ⊥
IsBest s bits budget (Spent log) = (budget < 3 ^ s.vars) × (budget < length log)

-- so many bits are settled, at the values that the last model gives them
pub record IsSearching (bits : List Lit) (budget n : ℕ) (t : SolverValue) : Type 0 where
  pub count : t.bits ≡ length bits
  pub given : t.given ≡ take n bits
  pub unfailed : t.failed ≡ false
  pub open_log : IsOpen t.lines
  pub in_budget : learnt_in t.lines ≤ budget
  pub whole : length t.model ≡ t.vars
  pub meets : AllTrue (values_in t.model) t.input
  pub valued : AllLines (HasValue (bits_at (values_in t.model) bits)) t.lines

-- a solver that began with these clauses
abbrev pub IsOver : List (List Lit) → ℕ → SolverValue → Type 0
IsOver input vars t = (t.input ≡ input) × (t.vars ≡ vars)

-- one more bit is settled, or the budget is spent
abbrev pub FixesBit : List Lit → ℕ → ℕ → SolverValue → SolverValue → Bool → Type 0
FixesBit bits budget n old new true = IsOver old.input old.vars new × IsSearching bits budget (n + 1) new
FixesBit bits budget n old new false = IsOver old.input old.vars new × IsSpentLog new.vars new.input bits budget new.lines

-- a number ends behind a place, and not beyond the bits
abbrev pub ends_past : List Lit → ℕ → Number → Bool
ends_past bits at number = nat_lt at number.end && nat_le number.end (length bits)

-- the number that a bit is of
abbrev pub number_at : List Lit → List Number → ℕ → Option Number
number_at bits numbers at = find (ends_past bits at) numbers

-- the bits of a number from a place on
abbrev pub left_of : List Lit → ℕ → Option Number → List Lit
left_of bits at None = []
left_of bits at (Some number) = slice_range bits at number.end
