-- A growing list of labelled clauses over numbered variables.
use Prim.Native.Nat.{zero, suc}
use Rattle.std.specs.Prelude.{◌≡◌, ℕ, ◌+◌, Bool, true, not, ◌||◌, List, [], ◌∷◌, ◌++◌, Option, None, Some, slice_get}
use Rattle.clause_store.specs.declared.Lit.{Lit}
use Rattle.clause_store.specs.declared.Label.{Label}
use Rattle.clause_store.specs.declared.Label.TheVariants.{Structure, Demand}
use Rattle.clause_store.specs.declared.list.Entry.{Entry}
use Rattle.clause_store.specs.Lits.{clause_true, AllBelow}

-- the clauses with their labels, in order of ids, and how many variables there are
pub record Clauses : Type 0 where
  pub entries : List Entry
  pub vars : ℕ

-- one more variable
abbrev pub with_var : Clauses → Clauses
with_var s = record s { vars = s.vars + 1 }

-- one more clause
abbrev pub with_clause : Clauses → List Lit → Label → Clauses
with_clause s c label = record s { entries = s.entries ++ record { clause = c; label = label } ∷ [] }

-- one more clause of the structure, if there is one
abbrev pub with_structure : Clauses → Option (List Lit) → Clauses
with_structure s None = s
with_structure s (Some c) = with_clause s c Structure

abbrev pub AllInRange : ℕ → List Entry → Type 0
AllInRange n [] = Unit {0}
AllInRange n (e ∷ es) = AllBelow n e.clause × AllInRange n es

-- whether clauses with this label are asked for: those of the structure always, those of a demand where the test says so
abbrev pub counts : (ℕ → Bool) → Label → Bool
counts asked Structure = true
counts asked (Demand d) = asked d

-- whether an assignment meets a clause, if it is asked for
abbrev pub entry_met : (ℕ → Bool) → (ℕ → Bool) → Entry → Bool
entry_met asked v e = not (counts asked e.label) || clause_true v e.clause

-- an assignment meets each clause that is asked for
abbrev pub Meets : (ℕ → Bool) → (ℕ → Bool) → List Entry → Type 0
Meets asked v [] = Unit {0}
Meets asked v (e ∷ es) = (entry_met asked v e ≡ true) × Meets asked v es

-- the clauses without their labels
abbrev pub clauses_of : List Entry → List (List Lit)
clauses_of [] = []
clauses_of (e ∷ es) = e.clause ∷ clauses_of es

-- an assignment makes each clause of a list true
abbrev pub AllTrue : (ℕ → Bool) → List (List Lit) → Type 0
AllTrue v [] = Unit {0}
AllTrue v (c ∷ cs) = (clause_true v c ≡ true) × AllTrue v cs

-- what has an id: ids count from 1
abbrev pub at_id : {A : Type 0} → List A → ℕ → Option A
at_id xs zero = None
at_id xs (suc k) = slice_get xs k
