-- The formulas over the literals and new variables.
use Rattle.std.specs.Prelude.{ℕ, ◌+◌, ◌-◌, ◌^◌, Bool, not, ◌&&◌, ◌==◌, nat_le, List, [], ◌∷◌, ◌++◌, if◌then◌else◌, map, Option, Some, None}
use Rattle.std.specs.List.{range_with_len, filter, flat_map, position_or_len, sum_by}
use Rattle.reachability.specs.Paths.{reaches, joined, members}
use Rattle.level_encoding.specs.Counts.{total_below, count_below}
use Rattle.clause_store.specs.declared.Lit.{Lit}
use Rattle.level_encoding.specs.declared.input.Arc.{Arc}
use Rattle.clause_circuits.specs.Gates.{lit_of}
use Rattle.clause_formulas.specs.Statements.{Statement, atom, opposite, any_statement, both_statements, implication_of}
use Rattle.level_encoding.specs.Composed.{rising, digit_row}
use Rattle.level_encoding.specs.Input.{LevelData, numbers, same, possible, node, literal_at, is_root_number, is_asked_target}

abbrev pub numbers_below : ℕ → List ℕ
numbers_below n = range_with_len 0 n

-- how many binary digits it takes to number m things
unfoldable pub width : ℕ → ℕ
width m = position_or_len (λ k. nat_le m (2 ^ k)) (numbers_below m)

-- a level has as many digits as it takes to number its component: none where it is one number
unfoldable pub level_width : LevelData → ℕ → ℕ
level_width s i = width (members same (possible s) (numbers_below (numbers s)) i)

-- the variables of levels follow one another
unfoldable pub level_start : LevelData → ℕ → ℕ
level_start s i = s.first + total_below (level_width s) i

-- a level's digits, the highest first
unfoldable pub level : LevelData → ℕ → List Statement
level s i = digit_row (level_start s i) (level_width s i)

-- q is a target, and arcs lead from p to it
unfoldable pub leads : LevelData → ℕ → ℕ → Bool
leads s q p = is_asked_target s q && reaches same (possible s) p q

-- how many numbers lead to q
unfoldable pub ways : LevelData → ℕ → ℕ
ways s q = count_below (leads s q) (numbers s)

-- behind the levels stand the variables of paths, target by target
unfoldable pub path_start : LevelData → ℕ → ℕ
path_start s q = level_start s (numbers s) + total_below (ways s) q

-- the literal that says whether a path leads from p to the target q, where arcs lead there at all
unfoldable pub way : LevelData → ℕ → ℕ → Option Lit
way s q p = if leads s q p then Some (lit_of (path_start s q + count_below (leads s q) p)) else None

-- a path leads from p to the target q
abbrev pub path : LevelData → ℕ → ℕ → Statement
path s p q = literal_at (way s q p)

-- the literals of the asked pairs
unfoldable pub paths_of : LevelData → List (Option Lit)
paths_of s = map (λ pair. way s pair.1 pair.0) s.asked

-- whether an arc leads from a number of a component to another one
unfoldable pub is_inside : LevelData → Arc → Bool
is_inside s a = not (a.parent == a.child) && joined same (possible s) a.parent a.child

-- how many turns the comparison of its levels takes
unfoldable pub turns : LevelData → Arc → ℕ
turns s a = if is_inside s a then level_width s a.parent - 1 else 0

-- levels rise along arcs inside a component; no arc leads from a number to itself
unfoldable pub arc_rules : LevelData → ℕ → Arc → List Statement
arc_rules s x a =
    if is_inside s a then rising (atom a.lit) (level s a.parent) (level s a.child) (digit_row x (turns s a))
    else if a.parent == a.child then opposite (atom a.lit) ∷ []
    else []

-- the turns of arcs follow one another, from x on
unfoldable pub arcs_rules : LevelData → ℕ → List Arc → List Statement
arcs_rules s x [] = []
arcs_rules s x (a ∷ arcs) = arc_rules s x a ++ arcs_rules s (x + turns s a) arcs

-- the arcs that lead to a number, and those that lead away from it
abbrev pub arriving : LevelData → ℕ → List Arc
arriving s i = filter (λ a. a.child == i) s.arcs

abbrev pub arcs_leaving : LevelData → ℕ → List Arc
arcs_leaving s p = filter (λ a. a.parent == p) s.arcs

-- a node that is no root has an arc that leads to it
unfoldable pub node_rules : LevelData → ℕ → List Statement
node_rules s i = if is_root_number s i then [] else any_statement (opposite (node s i) ∷ map (λ a. atom a.lit) (arriving s i)) ∷ []

-- an arc begins a path to q
unfoldable pub begins_path : LevelData → ℕ → Arc → Statement
begins_path s q a = if a.child == q then atom a.lit else both_statements (atom a.lit) (path s a.child q)

-- a path leads from p to q exactly where some arc begins one
unfoldable pub way_rules : LevelData → ℕ → ℕ → List Statement
way_rules s q p =
    any_statement (opposite (path s p q) ∷ map (begins_path s q) (arcs_leaving s p))
    ∷ map (λ a. implication_of (begins_path s q a) (path s p q)) (arcs_leaving s p)

unfoldable pub path_rules : LevelData → ℕ → List Statement
path_rules s q = flat_map (way_rules s q) (filter (leads s q) (numbers_below (numbers s)))

-- behind the paths stand the turns
unfoldable pub turn_start : LevelData → ℕ
turn_start s = path_start s (numbers s)

unfoldable pub constraints : LevelData → List Statement
constraints s =
    arcs_rules s (turn_start s) s.arcs ++ flat_map (node_rules s) (numbers_below (numbers s))
    ++ flat_map (path_rules s) (numbers_below (numbers s))

-- the new variables are those from the first one to before this one
unfoldable pub end : LevelData → ℕ
end s = turn_start s + sum_by (turns s) s.arcs
