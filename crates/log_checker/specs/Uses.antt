-- What a chain used, and which literals of a clause it has to look at where it uses the clause again.
use Rattle.std.specs.Prelude.{◌≡◌, ◌⊎◌, ℕ, ◌≤◌, Bool, true, false, not, ◌==◌, List, [], ◌∷◌, ◌++◌, drop, length, Option, Some, None, Result, Ok, Err, if◌then◌else◌}
use Rattle.std.specs.Ordering.{nat_cmp}
use Rattle.std.specs.Map.{lookup}
use Rattle.std.specs.BTreeMap.{is_at}
use Rattle.clause_store.specs.declared.Lit.{Lit}
use Rattle.clause_store.specs.Lits.{var_of, has}
use Rattle.log_checker.specs.declared.step.Why.{Why}
use Rattle.log_checker.specs.declared.step.Why.TheVariants.{NoPivot, TwoPivots}
use Rattle.log_checker.specs.Signs.{with_sign, opposed, overlay, stands}

-- the variables of the pivots so far; and of some clauses, how many there were before the clause's last use
pub record Used : Type 0 where
  pub pivots : List ℕ
  pub last : List (ℕ × ℕ)

abbrev pub last_at : List (ℕ × ℕ) → ℕ → Option ℕ
last_at last id = lookup (is_at (nat_cmp id)) last

-- the pivots since a clause's last use
abbrev pub IsSince : Used → ℕ → List ℕ → Type 0
IsSince u id vars = (k : ℕ) × (last_at u.last id ≡ Some k) × (vars ≡ drop k u.pivots)

-- nothing else is noted than was before, and one clause's use
abbrev pub IsNoted : List (ℕ × ℕ) → List (ℕ × ℕ) → ℕ → ℕ → Type 0
IsNoted last next id n = (j k : ℕ) → last_at next j ≡ Some k → (last_at last j ≡ Some k) ⊎ ((j ≡ id) × (k ≡ n))

-- one more step, with a clause and a pivot
abbrev pub IsStep : Used → Used → ℕ → ℕ → Type 0
IsStep u v id x = (v.pivots ≡ u.pivots ++ x ∷ []) × IsNoted u.last v.last id (length u.pivots)

-- since a clause's last use, its literals have their signs but for the pivots
abbrev pub IsKeptOf : Used → (ℕ → Option Bool) → ℕ → List Lit → Type 0
IsKeptOf u f id c = (k : ℕ) → last_at u.last id ≡ Some k → (k ≤ length u.pivots)
    × ((m : Lit) → has c m ≡ true → (f (var_of m) ≡ Some m.positive) ⊎ (stands (drop k u.pivots) (var_of m) ≡ true))

-- some literals of a clause, where all others have their signs
abbrev pub IsEnough : (ℕ → Option Bool) → List Lit → List Lit → Type 0
IsEnough f c parts = ((m : Lit) → has parts m ≡ true → has c m ≡ true)
    × ((m : Lit) → has c m ≡ true → (f (var_of m) ≡ Some m.positive) ⊎ (has parts m ≡ true))

-- the signs of a clause are put over the others, and the pivot's is taken
abbrev pub IsResolved : (ℕ → Option Bool) → (ℕ → Option Bool) → List Lit → Lit → Type 0
IsResolved f g c p = (x : ℕ) → g x ≡ with_sign (overlay c f) (var_of p) None x

-- the literal of a variable in a clause, and those of several
abbrev pub lit_at : List Lit → ℕ → Option Lit
lit_at [] x = None
lit_at (l ∷ ls) x = if var_of l == x then Some l else lit_at ls x

abbrev pub with_found : Option Lit → List Lit → List Lit
with_found None ls = ls
with_found (Some l) ls = l ∷ ls

abbrev pub lits_at : List Lit → List ℕ → List Lit
lits_at c [] = []
lits_at c (x ∷ xs) = with_found (lit_at c x) (lits_at c xs)

-- the only variable with the opposite sign, where there may be a pivot already
abbrev pub is_other : Option Lit → Lit → Bool
is_other None l = false
is_other (Some p) l = not (var_of p == var_of l)

abbrev pub pivot_or : Option Lit → Result Lit Why
pivot_or None = Err NoPivot
pivot_or (Some p) = Ok p

abbrev pub only_pivot : (ℕ → Option Bool) → Option Lit → List Lit → Result Lit Why
only_pivot f o [] = pivot_or o
only_pivot f o (l ∷ ls) = if opposed f l then (if is_other o l then Err TwoPivots else only_pivot f (Some l) ls) else only_pivot f o ls
