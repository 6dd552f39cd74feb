-- The recipes of files, by what reading them answered.
use Rattle.std.proofs.Common.{◌≡◌, refl, ap, ◌∙◌, ℕ, ◌≤◌, ◌^◌, true, zero, suc, List, [], ◌∷◌, map, take, Option, Some, Result, Ok, Err}
use Rattle.std.specs.List.{slice_get}
use Rattle.std.specs.Prelude.{get_or}
use Rattle.std.proofs.lemmas.Option.{get_or_from_slice_get}
use Rattle.recipe_data.specs.declared.recipe.Recipe.{Recipe}
use Rattle.problem.specs.Limits.{are_few_rows}
use Rattle.recipe_reader.specs.Files.{recipe_in_file, IsFirstFault}
use Rattle.recipe_reader.specs.Recipes.{recipe_of_file}
use Rattle.recipe_reader.specs.declared.fault.RecipeFault.{RecipeFault}
use Rattle.recipe_reader.specs.declared.files.RecipeFile.{RecipeFile}
use Rattle.run_answers.specs.declared.refusal.Refusal.TheVariants as refusals
use Rattle.run_input.specs.Sources.{Source, bytes_in, source_of}
use Rattle.run_input.specs.Recipes.{recipes_of}

abbrev Read : Type 0
Read = Result Recipe RecipeFault

pub heads : {A : Type 0} (x y : A) (xs ys : List A) → (let T : Type 0 = List A in let a : T = x ∷ xs in let b : T = y ∷ ys in a ≡ b) → x ≡ y
heads x y xs ys e = cc

pub tails : {A : Type 0} (x y : A) (xs ys : List A) → (let T : Type 0 = List A in let a : T = x ∷ xs in let b : T = y ∷ ys in a ≡ b) → xs ≡ ys
tails x y xs ys e = cc

-- each file is a recipe
pub all_read : (files : List RecipeFile) (recipes : List Recipe) → map recipe_in_file files ≡ map Ok recipes
    → recipes_of (map source_of files) ≡ Ok recipes
all_read [] [] e = refl
all_read [] (r ∷ recipes) e = absurd cc
all_read (f ∷ files) [] e = absurd cc
all_read (f ∷ files) (r ∷ recipes) e =
    rw (
      heads (recipe_in_file f) (Ok r) (map recipe_in_file files) (map Ok recipes) e,
      all_read files recipes
          (tails (recipe_in_file f) (Ok r) (map recipe_in_file files) (map Ok recipes) e),
    ) refl

at_front : (f : RecipeFile) (files : List RecipeFile) (e : RecipeFault) → recipe_in_file f ≡ Err e
    → recipes_of (map source_of (f ∷ files)) ≡ Err (refusals.BadRecipe f.name e)
at_front f files e h = rw h refl

some_same : {A : Type 0} (x y : A) → (let T : Type 0 = Option A in let a : T = Some x in let b : T = Some y in a ≡ b) → x ≡ y
some_same x y e = cc

bad_at : (place : ℕ) (files : List RecipeFile) (recipes : List Recipe) (file : RecipeFile) (e : RecipeFault)
    → map recipe_in_file (take place files) ≡ map Ok recipes → slice_get files place ≡ Some file → recipe_in_file file ≡ Err e
    → recipes_of (map source_of files) ≡ Err (refusals.BadRecipe file.name e)
bad_at place [] recipes file e before is faulty = absurd cc
bad_at zero (f ∷ files) recipes file e before is faulty =
    rw (← some_same f file is) (at_front f files e (ap recipe_in_file (some_same f file is) ∙ faulty))
bad_at (suc place) (f ∷ files) [] file e before is faulty = absurd cc
bad_at (suc place) (f ∷ files) (r ∷ recipes) file e before is faulty =
    rw (
      heads (recipe_in_file f) (Ok r) (map recipe_in_file (take place files)) (map Ok recipes) before,
      bad_at place files recipes file e (tails (recipe_in_file f) (Ok r) (map recipe_in_file (take place files)) (map Ok recipes) before) is
          faulty,
    ) refl

-- the file at this place is the one with the fault
pub first_bad : (place : ℕ) (e : RecipeFault) (files : List RecipeFile) (file : RecipeFile) → IsFirstFault place e files
    → file ≡ get_or files place file → recipes_of (map source_of files) ≡ Err (refusals.BadRecipe file.name e)
first_bad place e files file first is =
    let same : file ≡ first.file = is ∙ get_or_from_slice_get files place first.file file first.is in
    rw same (bad_at place files first.recipes first.file e first.before first.is first.faulty)

-- the recipes of files within the limit are within theirs
pub few_read : ((sources : List Source) (recipes : List Recipe) → map (λ (s : Source). recipe_of_file s.0 s.1) sources ≡ map Ok recipes
    → bytes_in sources ≤ 2 ^ 28 → are_few_rows recipes ≡ true)
    → (files : List RecipeFile) (recipes : List Recipe) → bytes_in (map source_of files) ≤ 2 ^ 28
    → map recipe_in_file files ≡ map Ok recipes → are_few_rows recipes ≡ true
few_read law files recipes short read = law (map source_of files) recipes (read_as files ∙ read) short
  where
    read_as : (files : List RecipeFile) → map (λ (s : Source). recipe_of_file s.0 s.1) (map source_of files) ≡ map recipe_in_file files
    read_as [] = refl
    read_as (f ∷ files) = ap (λ (rs : List Read). recipe_in_file f ∷ rs) (read_as files)

sources_named : (files : List RecipeFile) → map (λ (file : RecipeFile). file.name) files ≡ map (λ (source : Source). source.0)
    (map source_of files)
sources_named [] = refl
sources_named (f ∷ files) = ap (λ names. f.name ∷ names) (sources_named files)

-- recipes have the names of their files
pub named_alike : (files : List RecipeFile) (recipes : List Recipe)
    → map (λ (recipe : Recipe). recipe.name) recipes ≡ map (λ (file : RecipeFile). file.name) files
    → map (λ (recipe : Recipe). recipe.name) recipes ≡ map (λ (source : Source). source.0) (map source_of files)
named_alike files recipes e = e ∙ sources_named files
