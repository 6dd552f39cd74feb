-- Rows of dependencies behind the names that they ask for.
use Rattle.std.specs.Prelude.{◌≡◌, List, [], ◌∷◌, ◌++◌, map, filter, Option, Some, None}
use Rattle.std.specs.Str.{bytes_eq}
use Rattle.keyed_lists.specs.Lent.{with_text}
use Rattle.graph_core.specs.Graphs.{Text}
use Rattle.condition_rules.specs.Words.{is_some_and}
use Rattle.recipe_data.specs.declared.recipe.DependRow.{DependRow}

-- a row behind its name, where it has one
abbrev pub named_entry : DependRow → Option Text → List (Text × DependRow)
named_entry row None = []
named_entry row (Some name) = (name, row) ∷ []

abbrev pub named_entries : List DependRow → List (Text × DependRow)
named_entries [] = []
named_entries (row ∷ rows) = named_entry row row.part.name ++ named_entries rows

-- an index of rows has at each text those that ask for it, in the same order
abbrev pub AreNamed : List DependRow → List (Text × DependRow) → Type 0
AreNamed rows index = (text : Text) → map (λ e. e.1) (with_text text index)
    ≡ filter (λ row. is_some_and row.part.name (bytes_eq text)) rows
