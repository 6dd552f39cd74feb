-- A list of demands that cannot be met together, while it is reduced.
use Rattle.std.specs.Prelude.{◌≡◌, ℕ, ◌+◌, ◌<◌, Bool, true, false, ◌&&◌, ◌||◌, not, ◌==◌, List, [], ◌∷◌, Option, Some, None, drop, length}
use Rattle.clause_store.specs.Clauses.{Clauses, Meets}
use Rattle.clause_solver.specs.Models.{values_in}
use Rattle.explain_failure.specs.Uses.{stands, IsRising}
use Rattle.reason_minimum.specs.declared.reasons.LeastReasons.{LeastReasons}
use Rattle.reason_minimum.specs.declared.reduction.Reduction.{Reduction}
use Rattle.reason_minimum.specs.Least.{IsLeast}

-- a number stands in the one list or in the other
abbrev pub in_either : List ℕ → List ℕ → ℕ → Bool
in_either xs ys d = stands xs d || stands ys d

-- what is asked for without one demand
abbrev pub all_but : (ℕ → Bool) → ℕ → ℕ → Bool
all_but asked d e = asked e && not (d == e)

-- what is asked for, but for a demand that is broken
abbrev pub but : (ℕ → Bool) → Option ℕ → ℕ → Bool
but asked None = asked
but asked (Some d) = all_but asked d

-- a value for each variable that meets what is asked for
abbrev pub IsModelFor : Clauses → (ℕ → Bool) → List Bool → Type 0
IsModelFor s asked model = (length model ≡ s.vars) × Meets asked (values_in model) s.entries

-- for each of some demands, at its place, a model of what is asked for without it
abbrev pub AreModels : Clauses → (ℕ → Bool) → List ℕ → List (List Bool) → Type 0
AreModels s asked [] [] = Unit {0}
AreModels s asked [] (m ∷ ms) = ⊥
AreModels s asked (d ∷ ds) [] = ⊥
AreModels s asked (d ∷ ds) (m ∷ ms) = IsModelFor s (all_but asked d) m × AreModels s asked ds ms

-- the needed demands and the candidates cannot be met together, and each needed one has a model of all others
pub record IsReduction (s : Clauses) (needed : List ℕ) (models : List (List Bool)) (candidates : List ℕ) : Type 0 where
  pub rising : IsRising needed
  pub candidates_rise : IsRising candidates
  pub apart : (d : ℕ) → stands candidates d ≡ true → stands needed d ≡ false
  pub unmet : (v : ℕ → Bool) → Meets (in_either needed candidates) v s.entries → ⊥
  pub each_needed : AreModels s (in_either needed candidates) needed models

abbrev pub Reduces : Clauses → Reduction → Type 0
Reduces s r = IsReduction s r.needed.items r.models.items r.candidates.items

-- the rest without so many first candidates
abbrev pub in_rest : Reduction → ℕ → ℕ → Bool
in_rest r count d = in_either r.needed.items (drop count r.candidates.items) d

-- a candidate is needed, as the model shows
abbrev pub IsNeeded : Clauses → Reduction → List Bool → ℕ → Type 0
IsNeeded s r model d =
    (stands r.candidates.items d ≡ true) × IsModelFor s (all_but (in_either r.needed.items r.candidates.items) d) model

-- what is left to do
abbrev pub left_of : Reduction → ℕ
left_of r = length r.candidates.items + r.several

-- one round: less is left to do, or there is an answer
abbrev pub IsRound : Clauses → ℕ → Reduction → Reduction → Option LeastReasons → Type 0
IsRound s budget old new None = Reduces s new × (left_of new < left_of old)
IsRound s budget old new (Some answer) = IsLeast s budget answer
