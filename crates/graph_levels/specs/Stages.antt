-- A list of clauses that grows by stages, and what its assignments spell. X is the type of what they spell.
use Rattle.std.specs.Prelude.{◌≡◌, ℕ, Bool, true}
use Rattle.clause_store.specs.Clauses.{Clauses, AllInRange, Meets}
use Rattle.clause_circuits.specs.Growth.{Agree, Grows, MeetsSince}

-- nothing is said of an assignment and a thing
abbrev pub Nothing : {X : Type 0} → (ℕ → Bool) → X → Type 0
Nothing v x = Unit {0}

-- both are said
abbrev pub Both : {X : Type 0} → ((ℕ → Bool) → X → Type 0) → ((ℕ → Bool) → X → Type 0) → (ℕ → Bool) → X → Type 0
Both P Q v x = P v x × Q v x

-- what a test says
abbrev pub IsSo : {X : Type 0} → ((ℕ → Bool) → X → Bool) → (ℕ → Bool) → X → Type 0
IsSo test v x = test v x ≡ true

-- what is said of an assignment rests on the variables below n alone
abbrev pub IsLocal : {X : Type 0} → ℕ → ((ℕ → Bool) → X → Type 0) → Type 0
IsLocal {X} n Spells = (v w : ℕ → Bool) (x : X) → Agree n v w → Spells v x → Spells w x

-- Each assignment that meets the clauses that are asked for spells a thing that is right for them, and each right thing
-- is spelled by such an assignment.
pub record Models {X : Type 0} (list : Clauses) (Spells Right : (ℕ → Bool) → X → Type 0) : Type 0 where
  pub in_range : AllInRange list.vars list.entries
  pub local : IsLocal list.vars Spells
  pub sound : (asked v : ℕ → Bool) → Meets asked v list.entries → (x : X) × Spells v x × Right asked x
  pub complete : (asked : ℕ → Bool) (x : X) → Right asked x → (v : ℕ → Bool) × Spells v x × Meets asked v list.entries

-- Where an assignment spells a right thing, the clauses that are added make it say more of the thing, and hold only where the thing keeps a
-- rule; where it does, the assignment extends to one that meets them.
pub record Stage {X : Type 0} (old new : Clauses) (Spells More Right Rule : (ℕ → Bool) → X → Type 0) : Type 0 where
  pub grows : Grows old new
  pub local : IsLocal new.vars More
  pub more : (asked v : ℕ → Bool) (x : X) → Spells v x → Right asked x → MeetsSince asked v old new → More v x
  pub only : (asked v : ℕ → Bool) (x : X) → Spells v x → Right asked x → MeetsSince asked v old new → Rule asked x
  pub each : (asked v : ℕ → Bool) (x : X) → Spells v x → Right asked x → Rule asked x → (w : ℕ → Bool) × Agree old.vars v w
      × MeetsSince asked w old new

-- each assignment that meets the clauses decodes to a right thing, and each right thing is the decoding of one
pub record Decodes {X : Type 0} (list : Clauses) (decode : (ℕ → Bool) → X) (Right : (ℕ → Bool) → X → Type 0) : Type 0 where
  pub sound : (asked v : ℕ → Bool) → Meets asked v list.entries → Right asked (decode v)
  pub complete : (asked : ℕ → Bool) (x : X) → Right asked x → (v : ℕ → Bool) × (decode v ≡ x) × Meets asked v list.entries
