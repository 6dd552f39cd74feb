-- Gates by what they say of their literals.
use Rattle.std.specs.Prelude.{List, [], ◌∷◌, map}
use Rattle.clause_store.specs.declared.Lit.{Lit}
use Rattle.clause_store.specs.Lits.{negation}
use Rattle.clause_store.specs.Clauses.{Clauses}
use Rattle.clause_circuits.specs.Gates.{Sides, headed, clauses_from, lit_of, with_defined}

-- true where the two are
abbrev pub both : Lit → Lit → Sides
both a b = record { on = (negation a ∷ negation b ∷ []) ∷ []; off = (a ∷ []) ∷ (b ∷ []) ∷ [] }

-- a clause of each literal alone
abbrev pub singles : List Lit → List (List Lit)
singles [] = []
singles (l ∷ ls) = (l ∷ []) ∷ singles ls

-- true where some literal of a list is
abbrev pub any_of : List Lit → Sides
any_of ls = record { on = singles (map negation ls); off = ls ∷ [] }

-- true nowhere
abbrev pub never : Sides
never = any_of []

-- a literal is true where some literal of a list is: one side of that gate
abbrev pub cover_rules : Lit → List Lit → List (List Lit)
cover_rules x ls = headed x (singles (map negation ls))

-- a list of clauses with the next variable, and these rules of it
abbrev pub with_cover : Clauses → List Lit → Clauses
with_cover s ls = with_defined s (clauses_from (cover_rules (lit_of s.vars) ls))
