-- A check of chains that computes.
use Rattle.std.specs.Prelude.{ℕ, ◌-◌, ◌==◌, List, [], ◌∷◌, Option, Some, None, slice_get, unwrap_or, ◌<◌, ◌≤◌, if◌then◌else◌}
use Rattle.clause_store.specs.declared.Lit.{Lit}
use Rattle.clause_store.specs.Lits.{var_of, negation, has, contained, with_lits}

-- the first literal of a clause whose negation stands in another
abbrev pub first_clash : List Lit → List Lit → Option Lit
first_clash [] b = None
first_clash (l ∷ a) b = if has b (negation l) then Some l else first_clash a b

-- a clause without a variable
abbrev pub without : ℕ → List Lit → List Lit
without x [] = []
without x (l ∷ ls) = if var_of l == x then without x ls else l ∷ without x ls

-- what one step of a chain gives
pub data Resolved : Type 0 where
  no_pivot : Resolved
  two_pivots : Resolved
  result : List Lit → Resolved

abbrev pub union_or_clash : Option (List Lit) → Resolved
union_or_clash None = two_pivots
union_or_clash (Some r) = result r

abbrev pub resolved_at : Option Lit → List Lit → List Lit → Resolved
resolved_at None a b = no_pivot
resolved_at (Some l) a b = union_or_clash (with_lits (without (var_of l) a) (without (var_of l) b))

abbrev pub resolved : List Lit → List Lit → Resolved
resolved a b = resolved_at (first_clash a b) a b

-- what is wrong with a chain
pub data ChainFault : Type 0 where
  NoPivot : ChainFault
  TwoPivots : ChainFault
  NotContained : ChainFault

abbrev pub clause_at : List (List Lit) → ℕ → List Lit
clause_at known id = unwrap_or (slice_get known (id - 1)) []

abbrev pub after_step : (List Lit → Option ChainFault) → Resolved → Option ChainFault
after_step next no_pivot = Some NoPivot
after_step next two_pivots = Some TwoPivots
after_step next (result r) = next r

-- what is wrong with a chain that goes on from a clause, and with a whole one
abbrev pub fault_from : List (List Lit) → List ℕ → List Lit → List Lit → Option ChainFault
fault_from known [] stated a = if contained a stated then None else Some NotContained
fault_from known (id ∷ ids) stated a = after_step (fault_from known ids stated) (resolved a (clause_at known id))

abbrev pub chain_fault : List (List Lit) → List ℕ → List Lit → Option ChainFault
chain_fault known [] stated = Some NotContained
chain_fault known (id ∷ ids) stated = fault_from known ids stated (clause_at known id)

-- each id of a chain is a known clause's
abbrev pub IdsIn : ℕ → List ℕ → Type 0
IdsIn n [] = Unit {0}
IdsIn n (id ∷ ids) = (0 < id) × (id ≤ n) × IdsIn n ids
