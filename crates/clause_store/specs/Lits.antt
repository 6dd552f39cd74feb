-- Literals, clauses as lists of literals, and when an assignment meets them.
use Prim.Native.Nat.{suc}
use Rattle.std.specs.Prelude.{◌≡◌, ℕ, ◌<◌, Bool, true, false, not, ◌&&◌, ◌||◌, List, [], ◌∷◌, Option, Some, None, nat_lt, ◌==◌, if◌then◌else◌, option_and_then}
use Rattle.std.specs.Bool.{beq}
use Rattle.clause_store.specs.declared.Lit.{Lit}

-- the number of a literal's variable
abbrev pub var_of : Lit → ℕ
var_of l = l.var.0

abbrev pub negation : Lit → Lit
negation l = record l { positive = not l.positive }

-- whether a literal is true under an assignment
abbrev pub lit_true : (ℕ → Bool) → Lit → Bool
lit_true v l = if l.positive then v (var_of l) else not (v (var_of l))

-- whether some literal of a clause is true
abbrev pub clause_true : (ℕ → Bool) → List Lit → Bool
clause_true v [] = false
clause_true v (l ∷ ls) = lit_true v l || clause_true v ls

-- whether each literal of a list is true
abbrev pub all_true : (ℕ → Bool) → List Lit → Bool
all_true v [] = true
all_true v (l ∷ ls) = lit_true v l && all_true v ls

abbrev pub same_sign : Bool → Bool → Bool
same_sign a b = beq a b

abbrev pub lit_eq : Lit → Lit → Bool
lit_eq a b = (var_of a == var_of b) && same_sign a.positive b.positive

-- whether a literal stands in a clause
abbrev pub has : List Lit → Lit → Bool
has [] l = false
has (k ∷ ks) l = lit_eq k l || has ks l

-- each literal of the first clause stands in the second
abbrev pub contained : List Lit → List Lit → Bool
contained [] d = true
contained (l ∷ c) d = has d l && contained c d

abbrev pub cons_in : Lit → Option (List Lit) → Option (List Lit)
cons_in k None = None
cons_in k (Some ks) = Some (k ∷ ks)

-- the same literals stand in both
abbrev pub SameLits : List Lit → List Lit → Type 0
SameLits c d = (l : Lit) → has c l ≡ has d l

-- a variable stands in a list with both signs
abbrev pub HasBothSigns : List Lit → Type 0
HasBothSigns ls = (l : Lit) × (has ls l ≡ true) × (has ls (negation l) ≡ true)

-- a clause with one more literal, in order of variables: none where its variable stands there with the other sign
abbrev pub with_lit : List Lit → Lit → Option (List Lit)
with_lit [] l = Some (l ∷ [])
with_lit (k ∷ ks) l =
    if nat_lt (var_of l) (var_of k) then Some (l ∷ k ∷ ks)
    else (if var_of k == var_of l then (if same_sign k.positive l.positive then Some (k ∷ ks) else None)
    else cons_in k (with_lit ks l))

-- a clause with more literals
abbrev pub with_lits : List Lit → List Lit → Option (List Lit)
with_lits c [] = Some c
with_lits c (l ∷ ls) = option_and_then (λ d. with_lits d ls) (with_lit c l)

-- the clause of a list of literals: none where a variable stands there with both signs
abbrev pub clause_of : List Lit → Option (List Lit)
clause_of ls = with_lits [] ls

abbrev pub AllAbove : ℕ → List Lit → Type 0
AllAbove n [] = Unit {0}
AllAbove n (l ∷ ls) = (n < var_of l) × AllAbove n ls

-- each variable once, in rising order
abbrev pub IsClause : List Lit → Type 0
IsClause [] = Unit {0}
IsClause (l ∷ ls) = AllAbove (var_of l) ls × IsClause ls

-- each literal's variable is below a number
abbrev pub AllBelow : ℕ → List Lit → Type 0
AllBelow n [] = Unit {0}
AllBelow n (l ∷ ls) = (var_of l < n) × AllBelow n ls

-- the first place whose variable is not below the literal's
abbrev pub place_of : List Lit → Lit → ℕ
place_of [] l = 0
place_of (k ∷ ks) l = if nat_lt (var_of k) (var_of l) then suc (place_of ks l) else 0
