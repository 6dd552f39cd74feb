-- Variables that the analysis of a conflict has seen.
use Rattle.std.specs.Prelude.{◌≡◌, ℕ, ◌+◌, ◌<◌, ◌≤◌, Bool, true, false, not, ◌||◌, ◌&&◌, ◌==◌, length, List, [], ◌∷◌, Option, Some, None, slice_get, slice_index_or, if◌then◌else◌}
use Rattle.clause_store.specs.declared.Lit.{Lit}
use Rattle.clause_store.specs.Lits.{var_of, negation, has, SameLits}
use Rattle.clause_store.specs.Clauses.{at_id}
use Rattle.proof_log.specs.Known.{has_var}
use Rattle.proof_log.specs.Derivations.{IsResolvent}
use Rattle.clause_watch.specs.declared.trail.Placed.{Placed}
use Rattle.clause_watch.specs.Trails.{lits_of}

abbrev pub seen_at : List Bool → ℕ → Bool
seen_at seen x = slice_index_or seen x false

abbrev pub AreSeen : List Bool → List Bool → List Lit → Type 0
AreSeen old new ls = (x : ℕ) → seen_at new x ≡ (seen_at old x || has_var ls x)

abbrev pub AreClear : List Bool → Type 0
AreClear seen = (x : ℕ) → seen_at seen x ≡ false

-- each seen variable is listed, and what is listed is a variable
pub record AreListed (table : List Bool) (listed : List ℕ) : Type 0 where
  pub below : (j x : ℕ) → slice_get listed j ≡ Some x → x < length table
  pub has : (x : ℕ) → seen_at table x ≡ true → (j : ℕ) × (slice_get listed j ≡ Some x)

-- no variable is seen from one place to another
abbrev pub NoneSeen : (ℕ → Bool) → List Placed → ℕ → ℕ → Type 0
NoneSeen m ps low high = (k : ℕ) (p : Placed) → low ≤ k → k < high → slice_get ps k ≡ Some p → m (var_of p.lit) ≡ false

abbrev pub IsLastSeen : (ℕ → Bool) → List Placed → ℕ → Option ℕ → Type 0
IsLastSeen m ps end None = NoneSeen m ps 0 end
IsLastSeen m ps end (Some j) = (p : Placed) × (slice_get ps j ≡ Some p) × (j < end) × (m (var_of p.lit) ≡ true)
    × NoneSeen m ps (j + 1) end

-- the variable of a place
abbrev pub IsVarAt : List Placed → ℕ → ℕ → Type 0
IsVarAt ps at x = (p : Placed) × (slice_get ps at ≡ Some p) × (x ≡ var_of p.lit)

-- the clause of the false literals whose variables are seen
abbrev pub falsified : (ℕ → Bool) → List Placed → List Lit
falsified m [] = []
falsified m (p ∷ ps) = if m (var_of p.lit) then negation p.lit ∷ falsified m ps else falsified m ps

-- the false literal of a variable that is seen and has a value
abbrev pub IsFalseLit : (ℕ → Bool) → List Placed → ℕ → Option Lit → Type 0
IsFalseLit m ps x None = m x ≡ true → has_var (lits_of ps) x ≡ false
IsFalseLit m ps x (Some l) = (var_of l ≡ x) × (m x ≡ true) × (has (lits_of ps) (negation l) ≡ true)

-- a literal's variable is forgotten, and the other variables of its reason are seen
abbrev pub seen_after : (ℕ → Bool) → Lit → List Lit → ℕ → Bool
seen_after m l c x = not (x == var_of l) && (m x || has_var c x)

-- a chain leads from a clause to another, as sets
abbrev pub Leads : List (List Lit) → List Lit → List ℕ → List Lit → Type 0
Leads known a [] r = SameLits a r
Leads known a (id ∷ ids) r = (b : List Lit) × (q : List Lit) × (pivot : Lit) × (at_id known id ≡ Some b) × IsResolvent a b q pivot
    × Leads known q ids r
