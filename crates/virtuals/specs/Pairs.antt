-- The pairs of virtuals and packages, as recipes give them.
use Rattle.std.specs.Prelude.{List, map}
use Rattle.std.specs.List.{flat_map}
use Rattle.recipe_data.specs.OfGraphCore.Graphs.{Text}
use Rattle.recipe_data.specs.declared.recipe.Recipe.{Recipe}
use Rattle.recipe_data.specs.declared.recipe.ProvideRow.{ProvideRow}
use Rattle.virtuals.specs.Virtuals.{Pairs}

abbrev pub row_pairs : Text → List ProvideRow → Pairs
row_pairs provider rows = map (λ row. (row.name, provider)) rows

-- the pair of each row of each recipe
abbrev pub all_pairs : List Recipe → Pairs
all_pairs recipes = flat_map (λ recipe. row_pairs recipe.name recipe.provides) recipes
