-- Words of the worked rows: variables 0 and 1 are there before.
use Rattle.std.specs.Prelude.{ℕ, List, [], ◌∷◌}
use Rattle.clause_store.specs.declared.Lit.{Lit}
use Rattle.clause_circuits.specs.Gates.{Planned, lit_of}

abbrev pub start : Planned
start = record { first = 2; gates = [] }

abbrev pub two_terms : ℕ → ℕ → List (ℕ × Lit)
two_terms a b = (a, lit_of 0) ∷ (b, lit_of 1) ∷ []
