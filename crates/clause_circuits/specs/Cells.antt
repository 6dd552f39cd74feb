-- Bits: literals, or nothing where a bit is known to be false.
use Rattle.std.specs.Prelude.{ℕ, ◌+◌, ◌<◌, Bool, false, cond, List, [], ◌∷◌, Option, Some, None}
use Rattle.clause_store.specs.declared.Lit.{Lit}
use Rattle.clause_store.specs.Lits.{var_of, lit_true}
use Rattle.clause_circuits.specs.Gates.{Planned, Made, with_gate}
use Rattle.clause_circuits.specs.Shapes.{never}

abbrev pub bit : Bool → ℕ
bit b = cond b 1 0

-- how many literals are true
abbrev pub count_true : (ℕ → Bool) → List Lit → ℕ
count_true v [] = 0
count_true v (l ∷ ls) = bit (lit_true v l) + count_true v ls

abbrev pub bit_true : (ℕ → Bool) → Option Lit → Bool
bit_true v None = false
bit_true v (Some l) = lit_true v l

abbrev pub Fits : ℕ → Option Lit → Type 0
Fits n None = Unit {0}
Fits n (Some l) = var_of l < n

abbrev pub AllFit : ℕ → List (Option Lit) → Type 0
AllFit n [] = Unit {0}
AllFit n (b ∷ bs) = Fits n b × AllFit n bs

abbrev pub some_of : Made Lit → Made (Option Lit)
some_of m = record { plan = m.plan; answer = Some m.answer }

abbrev pub gave : Planned → Option Lit → Made (Option Lit)
gave p b = record { plan = p; answer = b }

-- a literal for a bit
abbrev pub known_on : Planned → Option Lit → Made Lit
known_on p None = with_gate p never
known_on p (Some l) = record { plan = p; answer = l }
