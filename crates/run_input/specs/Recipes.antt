-- The recipes of files, or the refusal that is due first.
use Rattle.std.specs.Prelude.{ℕ, List, [], ◌∷◌, Result, Ok, Err}
use Rattle.recipe_data.specs.declared.recipe.Recipe.{Recipe}
use Rattle.recipe_reader.specs.Recipes.{recipe_of_file}
use Rattle.recipe_reader.specs.declared.fault.RecipeFault.{RecipeFault}
use Rattle.run_answers.specs.Stages.{◌>>=◌}
use Rattle.run_answers.specs.declared.refusal.Refusal.{Refusal}
use Rattle.run_answers.specs.declared.refusal.Refusal.TheVariants as refusals
use Rattle.run_input.specs.Sources.{Source}

abbrev pub or_bad : List ℕ → Result Recipe RecipeFault → Result Recipe Refusal
or_bad name (Ok recipe) = Ok recipe
or_bad name (Err fault) = Err (refusals.BadRecipe name fault)

-- the recipe of a file, or its fault with the name of its package
abbrev pub recipe_of_source : Source → Result Recipe Refusal
recipe_of_source source = or_bad source.0 (recipe_of_file source.0 source.1)

-- the recipes of files, or the fault of the first file that has one
abbrev pub recipes_of : List Source → Result (List Recipe) Refusal
recipes_of [] = Ok []
recipes_of (source ∷ sources) = do
  recipe ← recipe_of_source source
  recipes ← recipes_of sources
  Ok (recipe ∷ recipes)
