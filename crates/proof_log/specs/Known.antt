-- Variables of literals, and facts of each known clause.
use Rattle.std.specs.Prelude.{ℕ, Bool, false, List, [], ◌∷◌, ◌==◌, ◌||◌}
use Rattle.clause_store.specs.declared.Lit.{Lit}
use Rattle.clause_store.specs.Lits.{var_of, IsClause, AllBelow}

-- whether a variable stands in a list of literals
abbrev pub has_var : List Lit → ℕ → Bool
has_var [] x = false
has_var (l ∷ ls) x = (var_of l == x) || has_var ls x

-- a fact of each known clause
abbrev pub EachClause : (List Lit → Type 0) → List (List Lit) → Type 0
EachClause P [] = Unit {0}
EachClause P (c ∷ cs) = P c × EachClause P cs

-- each is in order of variables, each variable once
abbrev pub AllClauses : List (List Lit) → Type 0
AllClauses known = EachClause IsClause known

-- each is over so many variables
abbrev pub AllOver : ℕ → List (List Lit) → Type 0
AllOver vars known = EachClause (AllBelow vars) known
