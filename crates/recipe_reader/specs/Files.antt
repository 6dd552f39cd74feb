-- Recipes of files, one after the other.
use Rattle.std.specs.Prelude.{◌≡◌, ℕ, List, map, take, Result, Some, Ok, Err, IfOk, IfErr}
use Rattle.std.specs.List.{slice_get}
use Rattle.recipe_data.specs.declared.recipe.Recipe.{Recipe}
use Rattle.recipe_reader.specs.declared.fault.RecipeFault.{RecipeFault}
use Rattle.recipe_reader.specs.declared.fault.RecipeFault.TheVariants as fault
use Rattle.recipe_reader.specs.declared.files.RecipeFile.{RecipeFile}
use Rattle.recipe_reader.specs.Results.{RecipeStep}
use Rattle.recipe_reader.specs.Recipes.{recipe_of_file}

abbrev pub recipe_in_file : RecipeFile → RecipeStep Recipe
recipe_in_file file = recipe_of_file file.name file.bytes.items

-- the file at this place has the fault, and each file before it has a recipe
pub record IsFirstFault (place : ℕ) (e : RecipeFault) (files : List RecipeFile) : Type 0 where
  pub recipes : List Recipe
  pub before : map recipe_in_file (take place files) ≡ map Ok recipes
  pub file : RecipeFile
  pub is : slice_get files place ≡ Some file
  pub faulty : recipe_in_file file ≡ Err e

-- the place beside want of memory is any
abbrev pub FailsAt : ℕ → RecipeFault → List RecipeFile → Type 0
FailsAt place fault.OutOfMemory files = Unit {0}
FailsAt place e files = IsFirstFault place e files

-- what reading files is answered by: the recipes, or the place of a file and its fault
abbrev pub Answer : Type 0
Answer = Result (List Recipe) (ℕ × RecipeFault)

-- that is the answer of reading them one after the other
pub record IsReadOf (files : List RecipeFile) (answer : Answer) : Type 0 where
  pub found : IfOk answer (λ recipes. map recipe_in_file files ≡ map Ok recipes)
  pub fault : IfErr answer (λ fault. FailsAt fault.0 fault.1 files)
