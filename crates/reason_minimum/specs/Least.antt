-- What a search for a least list of demands ends with.
use Rattle.std.specs.Prelude.{◌≡◌, ℕ, ◌<◌, ◌^◌, Bool, false, List, [], ◌∷◌, Option, Some, None, length}
use Rattle.clause_store.specs.Clauses.{Clauses, clauses_of}
use Rattle.proof_log.specs.declared.line.Line.{Line}
use Rattle.proof_log.specs.Certificates.{IsSpentLog}
use Rattle.clause_solver.specs.Models.{values_in}
use Rattle.optimum_search.specs.Finding.{MeetsAll}
use Rattle.explain_failure.specs.Uses.{stands, IsRising}
use Rattle.reason_minimum.specs.declared.reasons.LeastReasons.{LeastReasons}
use Rattle.reason_minimum.specs.declared.reasons.LeastReasons.TheVariants.{Satisfiable, Minimal, Spent}
use Rattle.reason_minimum.specs.Parts.{clauses_for, without_number, AreAll}

-- a value for each variable that meets all clauses
abbrev pub IsModel : Clauses → List Bool → Type 0
IsModel s model = (length model ≡ s.vars) × MeetsAll (values_in model) s

-- no assignment meets all clauses
abbrev pub IsUnmet : Clauses → Type 0
IsUnmet s = (v : ℕ → Bool) → MeetsAll v s → ⊥

-- for each of some demands, at its place, a model of the clauses of all others of a list
abbrev pub HaveModels : Clauses → List ℕ → List ℕ → List (List Bool) → Type 0
HaveModels s all [] [] = Unit {0}
HaveModels s all [] (m ∷ ms) = ⊥
HaveModels s all (d ∷ ds) [] = ⊥
HaveModels s all (d ∷ ds) (m ∷ ms) = IsModel (clauses_for (without_number d all) s) m × HaveModels s all ds ms

-- no assignment meets the clauses of these demands, and none of them can be left out
pub record IsMinimal (s : Clauses) (ds : List ℕ) (models : List (List Bool)) : Type 0 where
  pub rising : IsRising ds
  pub unmet : IsUnmet (clauses_for ds s)
  pub each_needed : HaveModels s ds ds models

-- these are all demands that label a clause; or with one more, which is not among them, no assignment meets their clauses
abbrev pub IsOnTheWay : Clauses → List ℕ → Option ℕ → Type 0
IsOnTheWay s ds None = AreAll s ds
IsOnTheWay s ds (Some d) = (stands ds d ≡ false) × IsUnmet (clauses_for (d ∷ ds) s)

-- the log spent the budget over the clauses of these demands, so that the budget was small
pub record IsSpentFor (s : Clauses) (budget : ℕ) (ds : List ℕ) (more : Option ℕ) (log : List Line) : Type 0 where
  pub rising : IsRising ds
  pub spent : IsSpentLog s.vars (clauses_of (clauses_for ds s).entries) [] budget log
  pub below_all : budget < 3 ^ s.vars
  pub below_lines : budget < length log
  pub on_the_way : IsOnTheWay s ds more

abbrev pub IsLeast : Clauses → ℕ → LeastReasons → Type 0
IsLeast s budget (Satisfiable model) = IsModel s model
IsLeast s budget (Minimal demands models) = IsMinimal s demands models
IsLeast s budget (Spent demands more log) = IsSpentFor s budget demands more log
