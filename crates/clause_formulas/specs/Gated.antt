-- Gates that were made, by their literals, so that none is made twice.
use Rattle.std.specs.Prelude.{◌≡◌, ℕ, ◌<◌, Bool, List, [], ◌∷◌, Option}
use Rattle.std.specs.Map.{lookup}
use Rattle.std.specs.Cmp.Lexicographic.{pointwise}
use Rattle.clause_store.specs.declared.Lit.{Lit}
use Rattle.clause_store.specs.Lits.{var_of, lit_eq, lit_true, clause_true, AllBelow}
use Rattle.clause_store.specs.Clauses.{Clauses}
use Rattle.clause_circuits.specs.Growth.{Extends, MeetsSince}

-- a gate's literals, and the literal that is true exactly where some of them is
abbrev pub Gate : Type 0
Gate = List Lit × Lit

-- a list of clauses, and the gates that were made in it
pub record Gated : Type 0 where
  pub list : Clauses
  pub gates : List Gate

abbrev pub gated : Clauses → List Gate → Gated
gated s gs = record { list = s; gates = gs }

-- no gate yet
abbrev pub bare : Clauses → Gated
bare s = gated s []

-- the first gate with these literals, in their order
abbrev pub gate_of : List Gate → List Lit → Option Lit
gate_of gs ls = lookup (pointwise lit_eq ls) gs

-- an assignment gives each gate its value
abbrev pub Fits : (ℕ → Bool) → List Gate → Type 0
Fits v [] = Unit {0}
Fits v (g ∷ gs) = (lit_true v g.1 ≡ clause_true v g.0) × Fits v gs

-- each variable is below a number
abbrev pub GatesBelow : ℕ → List Gate → Type 0
GatesBelow n [] = Unit {0}
GatesBelow n (g ∷ gs) = (AllBelow n g.0 × (var_of g.1 < n)) × GatesBelow n gs

-- each assignment of the old variables extends to one that meets the added clauses; where one meets them and gives the old gates their
-- values, it gives all gates theirs
pub record Keeps (old new : Gated) : Type 0 where
  pub extends : Extends old.list new.list
  pub below : GatesBelow new.list.vars new.gates
  pub fits : (asked v : ℕ → Bool) → Fits v old.gates → MeetsSince asked v old.list new.list → Fits v new.gates
