-- What the analysis of a conflict gives.
use Rattle.std.specs.Prelude.{◌≡◌, ◌⊎◌, ℕ, ◌+◌, ◌<◌, ◌≤◌, Bool, true, List, ◌++◌, Option, Some, None, length, take, slice_get}
use Rattle.clause_store.specs.declared.Lit.{Lit}
use Rattle.clause_store.specs.Lits.{var_of, negation, has, AllBelow, IsClause}
use Rattle.clause_store.specs.Clauses.{at_id}
use Rattle.proof_log.specs.Known.{has_var}
use Rattle.proof_log.specs.Derivations.{IsDerived}
use Rattle.proof_log.specs.Usefulness.{IsConsistent, IsUseful}
use Rattle.clause_watch.specs.declared.trail.Placed.{Placed}
use Rattle.clause_watch.specs.Trails.{lits_of, decisions, upto}
use Rattle.clause_watch.specs.Reasons.{NamesFalse}
use Rattle.clause_watch.specs.Watches.{WatchValue, IsAddable}
use Rattle.clause_solver.specs.declared.analysis.Learnt.{Learnt}
use Rattle.clause_solver.specs.Seen.{seen_at, NoneSeen, falsified, seen_after, Leads}

abbrev pub IsKnown : List (List Lit) → ℕ → Type 0
IsKnown clauses id = (c : List Lit) × (at_id clauses id ≡ Some c)

-- what is seen after a resolution with the reason of a literal
abbrev pub Resolves : List (List Lit) → List Bool → List Bool → Lit → ℕ → Type 0
Resolves clauses old new l id = (c : List Lit) → at_id clauses id ≡ Some c → (x : ℕ) → seen_at new x ≡ seen_after (seen_at old) l c x

-- the seen variables have values, and the last of them is of the last level
pub record IsTop (w : WatchValue) (seen : List Bool) (at : ℕ) : Type 0 where
  pub within : (x : ℕ) → seen_at seen x ≡ true → has_var (lits_of w.placed) x ≡ true
  pub place : Placed
  pub here : slice_get w.placed at ≡ Some place
  pub is_seen : seen_at seen (var_of place.lit) ≡ true
  pub above : NoneSeen (seen_at seen) w.placed (at + 1) (length w.placed)
  pub last : place.level ≡ decisions w.placed

-- the chain has grown by ids that lead from the seen clause to the one that is seen now
pub record ResolvesDown (w : WatchValue) (old new : List Bool) (chain longer : List ℕ) (at : ℕ) : Type 0 where
  pub ids : List ℕ
  pub grown : longer ≡ chain ++ ids
  pub leads : Leads w.clauses (falsified (seen_at old) w.placed) ids (falsified (seen_at new) w.placed)
  pub top : IsTop w new at
  pub same : length new ≡ length old

-- and it has one literal of the last level: a unique implication point
pub record ReachesUip (w : WatchValue) (old new : List Bool) (chain longer : List ℕ) (at : ℕ) : Type 0 where
  pub resolved : ResolvesDown w old new chain longer at
  pub alone : (k : ℕ) (p : Placed) → k < at → slice_get w.placed k ≡ Some p → seen_at new (var_of p.lit) ≡ true
      → p.level < decisions w.placed

-- at some place
abbrev pub LeadsToUip : WatchValue → List Bool → List Bool → List ℕ → List ℕ → Type 0
LeadsToUip w old new chain longer = (at : ℕ) × ReachesUip w old new chain longer at

-- what leads to a unique implication point still does after some more steps
abbrev pub KeepsUip : WatchValue → List Bool → List Bool → List ℕ → List ℕ → Type 0
KeepsUip w before after chain longer = (old : List Bool) (first : List ℕ) → LeadsToUip w old before first chain
    → LeadsToUip w old after first longer

-- the clause of the id gives the literal's variable its value at level 0
abbrev pub IsLevelZeroReason : List Placed → Lit → ℕ → Type 0
IsLevelZeroReason ps l id = (k : ℕ) × (p : Placed) × (slice_get ps k ≡ Some p) × (var_of p.lit ≡ var_of l) × (p.level ≡ 0)
    × (p.reason ≡ Some id)

-- a trail that agrees below a place; what has no reason there, or stands from there on, has its negation in a clause
abbrev pub Leaves : ℕ → List Placed → List Lit → Type 0
Leaves end ps stated = (k : ℕ) (p : Placed) → slice_get ps k ≡ Some p → (k < end → p.reason ≡ None) → has stated (negation p.lit) ≡ true

-- wherever the clause of the id is false, the chain derives each clause of what is left
abbrev pub DerivesRest : WatchValue → ℕ → ℕ → List ℕ → Type 0
DerivesRest w id end chain =
    (ps : List Placed) → take end ps ≡ take end w.placed → IsConsistent (lits_of ps) → NamesFalse ps w.clauses id →
    (stated : List Lit) → Leaves end ps stated → IsDerived w.clauses chain stated

-- the same, while it is made
pub record IsResolving (w : WatchValue) (old new : List Bool) (chain longer : List ℕ) (end at : ℕ) : Type 0 where
  pub ids : List ℕ
  pub grown : longer ≡ chain ++ ids
  pub leads : (ps : List Placed) → take end ps ≡ take end w.placed → IsConsistent (lits_of ps)
      → Leads w.clauses (falsified (seen_at old) ps) ids (falsified (seen_at new) ps)
  pub left : (k : ℕ) (p : Placed) → at ≤ k → k < end → slice_get w.placed k ≡ Some p → seen_at new (var_of p.lit) ≡ true → p.reason ≡ None
  pub low : at ≤ end
  pub same : length new ≡ length old

-- the level of a literal's variable, if it is below the present one
abbrev pub IsBackjumpLevelOf : List Placed → Lit → Option ℕ → Type 0
IsBackjumpLevelOf ps l None = (k : ℕ) (p : Placed) → slice_get ps k ≡ Some p → var_of p.lit ≡ var_of l → p.level < decisions ps → ⊥
IsBackjumpLevelOf ps l (Some v) = (k : ℕ) × (p : Placed) × (slice_get ps k ≡ Some p) × (var_of p.lit ≡ var_of l) × (p.level ≡ v)
    × (v < decisions ps)

-- the highest level below the present one that a variable of a clause has, and 0 where there is none
pub record IsBackjumpLevel (ps : List Placed) (c : List Lit) (level : ℕ) : Type 0 where
  pub bound : (k : ℕ) (p : Placed) → slice_get ps k ≡ Some p → has_var c (var_of p.lit) ≡ true → p.level < decisions ps → p.level ≤ level
  pub attained : (level ≡ 0) ⊎ ((k : ℕ) × (p : Placed) × (slice_get ps k ≡ Some p) × (has_var c (var_of p.lit) ≡ true) × (p.level ≡ level)
      × (level < decisions ps))

-- a clause that the chain derives and unit propagation does not give, to be added at the level
pub record IsLearnt (w : WatchValue) (learnt : Learnt) : Type 0 where
  pub in_order : IsClause learnt.clause
  pub in_range : AllBelow w.vars learnt.clause
  pub derived : IsDerived w.clauses learnt.chain learnt.clause
  pub useful : IsUseful w.clauses learnt.clause
  pub below : learnt.backjump < decisions w.placed
  pub addable : (learnt.backjump ≡ 0) ⊎ IsAddable (upto learnt.backjump w.placed) learnt.clause
