-- What a longer list of clauses says of the assignments of the variables that were there before.
use Rattle.std.specs.Prelude.{◌≡◌, ℕ, ◌<◌, ◌≤◌, Bool, true, not, ◌||◌, length, drop, take}
use Rattle.clause_store.specs.declared.Label.{Label}
use Rattle.clause_store.specs.declared.Lit.{Lit}
use Rattle.clause_store.specs.Lits.{var_of, lit_true}
use Rattle.clause_store.specs.Clauses.{Clauses, AllInRange, Meets, counts}

-- two assignments give each variable below a number the same value
abbrev pub Agree : ℕ → (ℕ → Bool) → (ℕ → Bool) → Type 0
Agree n v w = (k : ℕ) → k < n → v k ≡ w k

-- an assignment meets the clauses that the longer list has beyond the shorter, where they are asked for
abbrev pub MeetsSince : (ℕ → Bool) → (ℕ → Bool) → Clauses → Clauses → Type 0
MeetsSince asked v old new = Meets asked v (drop (length old.entries) new.entries)

-- the new list begins with the old one, and the rest is over its variables
pub record Grows (old new : Clauses) : Type 0 where
  pub keeps : take (length old.entries) new.entries ≡ old.entries
  pub more : old.vars ≤ new.vars
  pub in_range : AllInRange new.vars (drop (length old.entries) new.entries)

-- the added clauses hold in exactly the assignments of the old variables that keep a rule
pub record Says (old new : Clauses) (rule : (ℕ → Bool) → (ℕ → Bool) → Bool) : Type 0 where
  pub grows : Grows old new
  pub only : (asked v : ℕ → Bool) → MeetsSince asked v old new → rule asked v ≡ true
  pub each : (asked v : ℕ → Bool) → rule asked v ≡ true → (w : ℕ → Bool) × Agree old.vars v w × MeetsSince asked w old new

-- every assignment of the old variables extends to one that meets the added clauses
abbrev pub Extends : Clauses → Clauses → Type 0
Extends old new = Says old new (λ asked v. true)

-- in exactly one way
pub record Defines (old new : Clauses) : Type 0 where
  pub says : Extends old new
  pub once : (asked v w : ℕ → Bool) → Agree old.vars v w → MeetsSince asked v old new → MeetsSince asked w old new → Agree new.vars v w

-- the new list defines a literal that is true exactly where a fact of the assignment holds
pub record DefinesLit (old new : Clauses) (l : Lit) (f : (ℕ → Bool) → Bool) : Type 0 where
  pub defines : Defines old new
  pub below : var_of l < new.vars
  pub means : (asked v : ℕ → Bool) → MeetsSince asked v old new → lit_true v l ≡ f v

-- the new list has a literal that is true wherever a fact of the assignment holds; each assignment of the old variables extends to
-- one where it is true nowhere else
pub record CoversLit (old new : Clauses) (l : Lit) (f : (ℕ → Bool) → Bool) : Type 0 where
  pub grows : Grows old new
  pub below : var_of l < new.vars
  pub covers : (asked v : ℕ → Bool) → MeetsSince asked v old new → f v ≡ true → lit_true v l ≡ true
  pub each : (asked v : ℕ → Bool) → (w : ℕ → Bool) × Agree old.vars v w × MeetsSince asked w old new × (lit_true w l ≡ f w)

-- a rule for the clauses with a label: it holds where they are asked for
abbrev pub where_asked : Label → ((ℕ → Bool) → Bool) → (ℕ → Bool) → (ℕ → Bool) → Bool
where_asked label f asked v = not (counts asked label) || f v
