-- Small tables of targets.
use Rattle.std.specs.Prelude.{ℕ, List, [], ◌∷◌}
use Rattle.target_table.specs.declared.entry.TargetEntry.{TargetEntry}

abbrev pub v1 : List ℕ
v1 = 118 ∷ 49 ∷ []

abbrev pub v2 : List ℕ
v2 = 118 ∷ 50 ∷ []

abbrev pub v3 : List ℕ
v3 = 118 ∷ 51 ∷ []

abbrev pub v9 : List ℕ
v9 = 118 ∷ 57 ∷ []

abbrev pub entry : List ℕ → List (List ℕ) → TargetEntry
entry name parents = record { name = name; parents = parents }

-- v3 over v2 over v1
abbrev pub three_levels : List TargetEntry
three_levels = entry v3 (v2 ∷ []) ∷ entry v2 (v1 ∷ []) ∷ entry v1 [] ∷ []

abbrev pub a : List ℕ
a = 97 ∷ []

abbrev pub b : List ℕ
b = 98 ∷ []

-- v3 over a and b, both over v1
abbrev pub diamond : List TargetEntry
diamond = entry v1 [] ∷ entry a (v1 ∷ []) ∷ entry b (v1 ∷ []) ∷ entry v3 (a ∷ b ∷ []) ∷ []
