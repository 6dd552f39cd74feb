-- The rules of a way over the arcs that may begin it.
use Rattle.std.specs.Prelude.{ℕ, Bool, ◌||◌, ◌==◌, List, ◌∷◌, map}
use Rattle.std.specs.List.{filter}
use Rattle.clause_formulas.specs.Statements.{Statement, opposite, any_statement, implication_of}
use Rattle.level_encoding.specs.declared.input.Arc.{Arc}
use Rattle.level_encoding.specs.Input.{LevelData}
use Rattle.level_encoding.specs.Encoding.{leads, path, begins_path, arcs_leaving}

-- an arc leads to q, or to where arcs lead on to it
unfoldable pub may_begin : LevelData → ℕ → Arc → Bool
may_begin s q a = a.child == q || leads s q a.child

-- the arcs that lead away from p and may begin a path to q
abbrev pub arcs_towards : LevelData → ℕ → ℕ → List Arc
arcs_towards s q p = filter (may_begin s q) (arcs_leaving s p)

-- the rules of the way from p to q, where these arcs alone begin paths
unfoldable pub way_rules_over : LevelData → ℕ → ℕ → List Arc → List Statement
way_rules_over s q p arcs =
    any_statement (opposite (path s p q) ∷ map (begins_path s q) arcs)
    ∷ map (λ a. implication_of (begins_path s q a) (path s p q)) arcs
