-- The names that `depends_on` ask for.
use Rattle.std.specs.Prelude.{[], unwrap_or}
use Rattle.graph_core.specs.Graphs.{Text}
use Rattle.recipe_data.specs.declared.recipe.DependRow.{DependRow}

-- the name that the row asks for; no text where it names none
abbrev pub asked_text : DependRow → Text
asked_text row = unwrap_or row.part.name []
