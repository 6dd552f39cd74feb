-- Clauses one after another: the literals in one list, and where each clause ends.
use Rattle.std.specs.Prelude.{ℕ, List, [], ◌∷◌, slice_range}
use Rattle.clause_store.specs.declared.Lit.{Lit}

-- the clauses, of which the first begins where `from` says
abbrev pub parts : List Lit → ℕ → List ℕ → List (List Lit)
parts lits from [] = []
parts lits from (to ∷ ends) = slice_range lits from to ∷ parts lits to ends
