-- The clauses of some demands, and lists of demands.
use Rattle.std.specs.Prelude.{◌≡◌, ℕ, Bool, false, not, ◌||◌, ◌==◌, List, [], ◌∷◌}
use Rattle.std.specs.List.{filter}
use Rattle.clause_store.specs.declared.Label.{Label}
use Rattle.clause_store.specs.declared.Label.TheVariants.{Structure, Demand}
use Rattle.clause_store.specs.declared.list.Entry.{Entry}
use Rattle.clause_store.specs.Clauses.{Clauses, counts}
use Rattle.explain_failure.specs.Uses.{stands}

-- a clause of the structure, or of a demand that is asked for
abbrev pub is_for : (ℕ → Bool) → Entry → Bool
is_for asked e = counts asked e.label

-- the clauses of the structure and those of some demands, in their order
abbrev pub clauses_for : List ℕ → Clauses → Clauses
clauses_for ds s = record s { entries = filter (is_for (stands ds)) s.entries }

-- a list without one number
abbrev pub without_number : ℕ → List ℕ → List ℕ
without_number d ds = filter (λ e. not (d == e)) ds

-- whether a demand is a label, and whether it labels one of the clauses
abbrev pub is_label : Label → ℕ → Bool
is_label Structure d = false
is_label (Demand b) d = b == d

abbrev pub labels : List Entry → ℕ → Bool
labels [] d = false
labels (e ∷ es) d = is_label e.label d || labels es d

-- these are all demands that label a clause
abbrev pub AreAll : Clauses → List ℕ → Type 0
AreAll s ds = (d : ℕ) → stands ds d ≡ labels s.entries d
