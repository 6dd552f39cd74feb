-- What a longer list leaves open, whether its call came to an end or not, and what it says.
use Rattle.std.specs.Prelude.{◌≡◌, ℕ, Bool, true}
use Rattle.clause_store.specs.Clauses.{Clauses}
use Rattle.clause_circuits.specs.Growth.{Agree, Grows, MeetsSince}
use Rattle.clause_formulas.specs.Gated.{Gated, Fits, GatesBelow}

-- the new list begins with the old one, and each assignment of the old variables that keeps a rule extends to one that meets the
-- added clauses
pub record Allows (old new : Clauses) (rule : (ℕ → Bool) → (ℕ → Bool) → Type 0) : Type 0 where
  pub grows : Grows old new
  pub each : (asked v : ℕ → Bool) → rule asked v → (w : ℕ → Bool) × Agree old.vars v w × MeetsSince asked w old new

-- the same where an assignment gives the old gates their values; where it meets the added clauses, it gives all gates theirs
pub record AllowsIn (old new : Gated) (rule : (ℕ → Bool) → (ℕ → Bool) → Type 0) : Type 0 where
  pub grows : Grows old.list new.list
  pub below : GatesBelow new.list.vars new.gates
  pub fits : (asked v : ℕ → Bool) → Fits v old.gates → MeetsSince asked v old.list new.list → Fits v new.gates
  pub each : (asked v : ℕ → Bool) → Fits v old.gates → rule asked v
      → (w : ℕ → Bool) × Agree old.list.vars v w × MeetsSince asked w old.list new.list

-- the added clauses hold in exactly the assignments of the old variables that keep a rule, among those that give the old gates their values
pub record SaysIn (old new : Gated) (rule : (ℕ → Bool) → (ℕ → Bool) → Bool) : Type 0 where
  pub allows : AllowsIn old new (λ asked v. rule asked v ≡ true)
  pub only : (asked v : ℕ → Bool) → Fits v old.gates → MeetsSince asked v old.list new.list → rule asked v ≡ true
