-- New clauses, and clauses that unit propagation over the known ones does not give.
use Rattle.std.specs.Prelude.{◌≡◌, ◌≢◌, ◌⊎◌, true, false, List, [], ◌∷◌}
use Rattle.clause_store.specs.declared.Lit.{Lit}
use Rattle.clause_store.specs.Lits.{var_of, negation, has, SameLits}
use Rattle.proof_log.specs.Known.{has_var}

-- no variable stands with both signs
abbrev pub IsConsistent : List Lit → Type 0
IsConsistent s = (l : Lit) → has s l ≡ true → has s (negation l) ≡ true → ⊥

-- two literals of a clause whose variables do not stand in a list
pub record FreePair (s : List Lit) (c : List Lit) : Type 0 where
  pub first : Lit
  pub second : Lit
  pub has_first : has c first ≡ true
  pub has_second : has c second ≡ true
  pub first_free : has_var s (var_of first) ≡ false
  pub second_free : has_var s (var_of second) ≡ false
  pub apart : var_of first ≢ var_of second

pub record TrueLit (s : List Lit) (c : List Lit) : Type 0 where
  pub lit : Lit
  pub stands : has c lit ≡ true
  pub holds : has s lit ≡ true

-- no clause is false and none has all literals false but one without value
abbrev pub IsSettled : List Lit → List (List Lit) → Type 0
IsSettled s [] = Unit {0}
IsSettled s (c ∷ cs) = (TrueLit s c ⊎ FreePair s c) × IsSettled s cs

-- unit propagation over the known clauses does not give this clause
pub record IsUseful (known : List (List Lit)) (clause : List Lit) : Type 0 where
  pub lit : Lit
  pub stands : has clause lit ≡ true
  pub given : List Lit
  pub consistent : IsConsistent given
  pub free : has_var given (var_of lit) ≡ false
  pub others : (l : Lit) → has clause l ≡ true → l ≢ lit → has given (negation l) ≡ true
  pub settled : IsSettled given known

-- a clause equals none of the known ones as a set
abbrev pub IsNew : List (List Lit) → List Lit → Type 0
IsNew [] c = Unit {0}
IsNew (d ∷ ds) c = (SameLits d c → ⊥) × IsNew ds c
