-- The first file that has a fault, and what the recipes of files have.
use Rattle.std.proofs.Common.{◌≡◌, ℕ, ◌<◌, true, List, [], ◌∷◌, length, take, map, get_or, refl, sym, ap, subst, zero, suc, arith}
use Rattle.std.specs.Prelude.{Ok, Some, IfOk}
use Rattle.std.specs.List.{list_all, slice_get}
use Rattle.std.proofs.lemmas.Bool.{and_from}
use Rattle.recipe_data.specs.Right.{is_right_recipe}
use Rattle.recipe_data.specs.declared.recipe.Recipe.{Recipe}
use Rattle.recipe_reader.specs.declared.fault.RecipeFault.{RecipeFault}
use Rattle.recipe_reader.specs.declared.fault.RecipeFault.TheVariants as fault
use Rattle.recipe_reader.specs.declared.files.RecipeFile.{RecipeFile}
use Rattle.recipe_reader.specs.Results.{RecipeStep, Fails}
use Rattle.recipe_reader.specs.Files.{recipe_in_file, FailsAt}
use Rattle.recipe_reader.proofs.KeptLaws.{named, right}

slice_at : {X : Type 0} (xs : List X) (i : ℕ) (x : X) → i < length xs → x ≡ get_or xs i x → slice_get xs i ≡ Some x
slice_at [] i x h is = absurd (omega (arith, h))
slice_at (y ∷ xs) zero x h is = ap (λ (z : _). Some z) (sym is)
slice_at (y ∷ xs) (suc i) x h is = slice_at xs i x (omega arith) is

-- the first file that has a fault fails, where all before it have recipes
pub first_fault : (place : ℕ) (e : RecipeFault) (file : RecipeFile) (files : List RecipeFile) (recipes : List Recipe) → place < length files
    → file ≡ get_or files place file → map recipe_in_file (take place files) ≡ map Ok recipes → Fails e (recipe_in_file file)
    → FailsAt place e files
first_fault place fault.OutOfMemory file files recipes h is before fails = tt
first_fault place e file files recipes h is before fails =
    record { recipes = recipes; before = before; file = file; is = slice_at files place file h is; faulty = fails }

-- ---- recipes of files

heads_are : {X : Type 0} (x y : X) (xs ys : List X) → x ∷ xs ≡ y ∷ ys → (x ≡ y) × (xs ≡ ys)
heads_are x y xs ys e = (cc, cc)

-- each of the recipes of files is right
pub all_right : (files : List RecipeFile) (recipes : List Recipe) → map recipe_in_file files ≡ map Ok recipes
    → list_all is_right_recipe recipes ≡ true
all_right files [] are = refl
all_right [] (recipe ∷ recipes) are = absurd cc
all_right (file ∷ files) (recipe ∷ recipes) are =
    let both = heads_are (recipe_in_file file) (Ok recipe) (map recipe_in_file files) (map Ok recipes) are in
    and_from (is_right_recipe recipe) (list_all is_right_recipe recipes) (right file.name file.bytes.items recipe both.0)
    (all_right files recipes both.1)

file_named : (file : RecipeFile) (recipe : Recipe) → recipe_in_file file ≡ Ok recipe → recipe.name ≡ file.name
file_named file recipe is = subst (λ (a : RecipeStep Recipe). IfOk a (λ r. r.name ≡ file.name)) is (named file.name file.bytes.items)

-- recipes have the names of their files
pub all_named : (files : List RecipeFile) (recipes : List Recipe) → map recipe_in_file files ≡ map Ok recipes
    → map (λ recipe. recipe.name) recipes ≡ map (λ file. file.name) files
all_named [] [] are = refl
all_named [] (recipe ∷ recipes) are = absurd cc
all_named (file ∷ files) [] are = absurd cc
all_named (file ∷ files) (recipe ∷ recipes) are =
    let both = heads_are (recipe_in_file file) (Ok recipe) (map recipe_in_file files) (map Ok recipes) are in
    let first = file_named file recipe both.0 in
    let rest = all_named files recipes both.1 in
    rw (first, rest) refl
