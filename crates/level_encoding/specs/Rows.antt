-- Small inputs.
use Rattle.std.specs.Prelude.{ℕ, [], ◌∷◌}
use Rattle.clause_circuits.specs.Gates.{lit_of}
use Rattle.clause_formulas.specs.Statements.{Statement, atom}
use Rattle.level_encoding.specs.declared.input.Arc.{Arc}
use Rattle.level_encoding.specs.Input.{LevelData}

abbrev pub arc : ℕ → ℕ → ℕ → Arc
arc p q x = record { parent = p; child = q; lit = lit_of x }

-- the formula that a variable is true
abbrev pub holds : ℕ → Statement
holds x = atom (lit_of x)

-- three numbers, of which two lead to each other and the second to the third; is the third reached from the first?
abbrev pub loop_and_tail : LevelData
loop_and_tail = record {
  nodes = lit_of 0 ∷ lit_of 1 ∷ lit_of 2 ∷ [];
  roots = 0 ∷ [];
  arcs = arc 0 1 3 ∷ arc 1 0 4 ∷ arc 1 2 5 ∷ [];
  asked = (0, 2) ∷ [];
  first = 6;
}

-- a number that leads to itself
abbrev pub own_arc : LevelData
own_arc = record { nodes = lit_of 0 ∷ []; roots = []; arcs = arc 0 0 1 ∷ []; asked = (0, 0) ∷ []; first = 2 }
