-- Derivations of clauses from known clauses, by sets of literals.
use Rattle.std.specs.Prelude.{◌≡◌, ◌≢◌, ◌↔◌, ◌⊎◌, ℕ, true, List, [], ◌∷◌, Some}
use Rattle.clause_store.specs.declared.Lit.{Lit}
use Rattle.clause_store.specs.Lits.{var_of, negation, has}
use Rattle.clause_store.specs.Clauses.{at_id}

-- a literal stands in the first clause, and its negation in the second
abbrev pub Clashes : List Lit → List Lit → Lit → Type 0
Clashes a b l = (has a l ≡ true) × (has b (negation l) ≡ true)

-- exactly one variable stands in both clauses with opposite signs, and the result is both clauses without it
pub record IsResolvent (a b r : List Lit) (pivot : Lit) : Type 0 where
  pub clash : Clashes a b pivot
  pub only : (l : Lit) → Clashes a b l → var_of l ≡ var_of pivot
  pub union : (l : Lit) → (has r l ≡ true) ↔ (((has a l ≡ true) ⊎ (has b l ≡ true)) × (var_of l ≢ var_of pivot))

-- the chain leads from a clause to a result that the stated clause contains
abbrev pub DerivesFrom : List (List Lit) → List Lit → List ℕ → List Lit → Type 0
DerivesFrom known a [] stated = (l : Lit) → has a l ≡ true → has stated l ≡ true
DerivesFrom known a (id ∷ ids) stated =
    (b : List Lit) × (r : List Lit) × (pivot : Lit) × (at_id known id ≡ Some b) × IsResolvent a b r pivot × DerivesFrom known r ids stated

-- the stated clause is derived from known clauses by a chain of their ids
abbrev pub IsDerived : List (List Lit) → List ℕ → List Lit → Type 0
IsDerived known [] stated = ⊥
IsDerived known (id ∷ ids) stated = (a : List Lit) × (at_id known id ≡ Some a) × DerivesFrom known a ids stated
