-- Nodes, roots, arcs and asked pairs, and what an assignment chooses of them.
use Rattle.std.specs.Prelude.{ℕ, ◌<◌, Bool, ◌==◌, List, Option, Some, None, length, map}
use Rattle.std.specs.List.{list_any, filter, slice_get, All}
use Rattle.clause_store.specs.declared.Lit.{Lit}
use Rattle.level_encoding.specs.declared.input.Arc.{Arc}
use Rattle.clause_store.specs.Lits.{lit_true, var_of}
use Rattle.clause_formulas.specs.Statements.{Statement, atom, never}

-- the literal of each number, the numbers of the roots, the arcs, the pairs whose paths are asked for,
-- and the first new variable
pub record LevelData : Type 0 where
  pub nodes : List Lit
  pub roots : List ℕ
  pub arcs : List Arc
  pub asked : List (ℕ × ℕ)
  pub first : ℕ

abbrev pub numbers : LevelData → ℕ
numbers s = length s.nodes

-- whether two numbers are one
abbrev pub same : ℕ → ℕ → Bool
same p q = p == q

abbrev pub arc_ends : Arc → ℕ × ℕ
arc_ends a = (a.parent, a.child)

-- the arcs as pairs of numbers, and those that an assignment chooses
unfoldable pub possible : LevelData → List (ℕ × ℕ)
possible s = map arc_ends s.arcs

unfoldable pub chosen : LevelData → (ℕ → Bool) → List (ℕ × ℕ)
chosen s v = map arc_ends (filter (λ a. lit_true v a.lit) s.arcs)

abbrev pub literal_at : Option Lit → Statement
literal_at None = never
literal_at (Some l) = atom l

unfoldable pub node : LevelData → ℕ → Statement
node s i = literal_at (slice_get s.nodes i)

unfoldable pub is_root_number : LevelData → ℕ → Bool
is_root_number s i = list_any (λ r. r == i) s.roots

-- some pair asks for paths to q
unfoldable pub is_asked_target : LevelData → ℕ → Bool
is_asked_target s q = list_any (λ pair. pair.1 == q) s.asked

-- arcs join numbers, and literals are older than the new variables
pub record IsRight (s : LevelData) : Type 0 where
  pub ends : All (λ a. (a.parent < numbers s) × (a.child < numbers s)) s.arcs
  pub nodes_old : All (λ l. var_of l < s.first) s.nodes
  pub arcs_old : All (λ a. var_of a.lit < s.first) s.arcs

abbrev pub input_of : List Lit → List ℕ → List Arc → List (ℕ × ℕ) → ℕ → LevelData
input_of nodes roots arcs asked first = record { nodes = nodes; roots = roots; arcs = arcs; asked = asked; first = first }
