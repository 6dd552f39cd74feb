-- Parts of files, and what they are answered by together.
use Rattle.std.proofs.Common.{◌≡◌, ℕ, ◌+◌, ◌<◌, ◌≤◌, ◌^◌, min, List, [], ◌∷◌, ◌++◌, length, take, map, flat_map, get_or, refl, sym, ap, ◌∙◌, subst, zero, suc, arith, length-append, append-nil}
use Rattle.std.specs.Prelude.{Some, Ok, Err}
use Rattle.recipe_reader.specs.Results.{RecipeStep}
use Rattle.std.specs.List.{AllZip, slice_get}
use Rattle.std.proofs.Math.Seq.{take-append-add}
use Rattle.std.proofs.lemmas.List.{length-map, map-append, take-append-le}
use Rattle.std.proofs.lemmas.List.Concat.{flat_map-append}
use Rattle.std.proofs.lemmas.Option.{slice_get_within}
use Rattle.recipe_data.specs.declared.recipe.Recipe.{Recipe}
use Rattle.recipe_reader.specs.declared.fault.RecipeFault.{RecipeFault}
use Rattle.recipe_reader.specs.declared.fault.RecipeFault.TheVariants as fault
use Rattle.recipe_reader.specs.declared.files.RecipeFile.{RecipeFile}
use Rattle.recipe_reader.specs.Files.{recipe_in_file, FailsAt, IsFirstFault, Answer, IsReadOf}

-- ---- a fault behind other files

get_behind : {X : Type 0} (front files : List X) (place : ℕ) → slice_get (front ++ files) (length front + place) ≡ slice_get files place
get_behind [] files place = let none : 0 + place ≡ place = omega arith in rw none refl
get_behind (y ∷ front) files place =
    let one : suc (length front) + place ≡ suc (length front + place) = omega arith in
    rw one (get_behind front files place)

get_before : {X : Type 0} (files more : List X) (place : ℕ) (x : X) → slice_get files place ≡ Some x
    → slice_get (files ++ more) place ≡ Some x
get_before [] more place x is = absurd cc
get_before (y ∷ files) more zero x is = is
get_before (y ∷ files) more (suc place) x is = get_before files more place x is

count_front : (front : List RecipeFile) (recipes : List Recipe) → map recipe_in_file front ≡ map Ok recipes → length front ≡ length recipes
count_front front recipes are = sym (length-map front recipe_in_file) ∙ ap length are ∙ length-map {B = RecipeStep Recipe} recipes Ok

first_behind : (place : ℕ) (e : RecipeFault) (front files more : List RecipeFile) (recipes : List Recipe)
    → map recipe_in_file front ≡ map Ok recipes → IsFirstFault place e files
    → IsFirstFault (length front + place) e (front ++ (files ++ more))
first_behind place e front files more recipes are first =
    let within : place < length files = slice_get_within files place first.file first.is in
    let some : place ≤ length files = omega arith in
    record {
      recipes = recipes ++ first.recipes;
      before =
          rw (
            take-append-add front (files ++ more) place,
            take-append-le place files more some,
            map-append {B = RecipeStep Recipe} recipe_in_file front (take place files),
            map-append {B = RecipeStep Recipe} Ok recipes first.recipes,
            are,
            first.before,
          ) refl;
      file = first.file;
      is = get_behind front (files ++ more) place ∙ get_before files more place first.file first.is;
      faulty = first.faulty;
    }

first_at : (place before : ℕ) (e : RecipeFault) (front files more : List RecipeFile) (recipes : List Recipe)
    → map recipe_in_file front ≡ map Ok recipes → length recipes ≡ before → length (front ++ (files ++ more)) < 2 ^ 64
    → IsFirstFault place e files → IsFirstFault (min (place + before) 18446744073709551615) e (front ++ (files ++ more))
first_at place before e front files more recipes are count fits first =
    let many : length front ≡ length recipes = count_front front recipes are in
    let within : place < length files = slice_get_within files place first.file first.is in
    let whole : length (front ++ (files ++ more)) ≡ length front + (length files + length more) =
    length-append front (files ++ more) ∙ ap (λ (n : ℕ). length front + n) (length-append files more) in
    let at : length front + place ≡ min (place + before) 18446744073709551615 = omega arith in
    subst (λ (n : ℕ). IsFirstFault n e (front ++ (files ++ more))) at (first_behind place e front files more recipes are first)

-- a fault of files behind others stands as many places further
pub stands_behind : (place before : ℕ) (e : RecipeFault) (front files more : List RecipeFile) (recipes : List Recipe)
    → map recipe_in_file front ≡ map Ok recipes → length recipes ≡ before → length (front ++ (files ++ more)) < 2 ^ 64
    → FailsAt place e files → FailsAt (min (place + before) 18446744073709551615) e (front ++ (files ++ more))
stands_behind place before fault.OutOfMemory front files more recipes are count fits fails = tt
stands_behind place before e front files more recipes are count fits fails =
    first_at place before e front files more recipes are count fits fails

-- ---- parts with their answers

-- the parts before an answer, its own, and those behind it
record At (parts : List (List RecipeFile)) (before : List Answer) (answer : Answer) (more : List Answer) : Type 0 where
  front : List (List RecipeFile)
  part : List RecipeFile
  later : List (List RecipeFile)
  are : parts ≡ front ++ (part ∷ later)
  answered : AllZip IsReadOf front before
  is : IsReadOf part answer
  left : AllZip IsReadOf later more

at_answer : (parts : List (List RecipeFile)) (before : List Answer) (answer : Answer) (more : List Answer)
    → AllZip IsReadOf parts (before ++ (answer ∷ more)) → At parts before answer more
at_answer [] [] answer more all = absurd all
at_answer [] (a ∷ before) answer more all = absurd all
at_answer (p ∷ parts) [] answer more all =
    record { front = []; part = p; later = parts; are = refl; answered = tt; is = all.0; left = all.1 }
at_answer (p ∷ parts) (a ∷ before) answer more all =
    let rest = at_answer parts before answer more all.1 in
    record {
      front = p ∷ rest.front;
      part = rest.part;
      later = rest.later;
      are = ap (λ (ps : List (List RecipeFile)). p ∷ ps) rest.are;
      answered = (all.0, rest.answered);
      is = rest.is;
      left = rest.left;
    }

abbrev flat : List (List RecipeFile) → List RecipeFile
flat parts = flat_map (λ part. part) parts

-- what the answers so far say: the files of their parts have these recipes
abbrev pub AreSoFar : List Answer → List Recipe → Type 0
AreSoFar answers recipes = (parts : List (List RecipeFile)) → AllZip IsReadOf parts answers
    → map recipe_in_file (flat parts) ≡ map Ok recipes

none_left : (parts : List (List RecipeFile)) → AllZip IsReadOf parts [] → parts ≡ []
none_left [] all = refl
none_left (p ∷ parts) all = absurd all

flat_split : (parts : List (List RecipeFile)) (before : List Answer) (answer : Answer) (more : List Answer)
    (at : At parts before answer more)
    → flat parts ≡ flat at.front ++ (at.part ++ flat at.later)
flat_split parts before answer more at = ap flat at.are ∙ flat_map-append (λ part. part) at.front (at.part ∷ at.later)

-- one answer more with recipes
pub one_more : (before : List Answer) (recipes more : List Recipe) → AreSoFar before recipes
    → AreSoFar (before ++ Ok more ∷ []) (recipes ++ more)
one_more before recipes more so_far parts all =
    let at = at_answer parts before (Ok more) [] all in
    let none = none_left at.later at.left in
    let last : flat at.later ≡ [] = ap flat none in
    rw (
      flat_split parts before (Ok more) [] at,
      last,
      append-nil at.part,
      map-append {B = RecipeStep Recipe} recipe_in_file (flat at.front) at.part,
      map-append {B = RecipeStep Recipe} Ok recipes more,
      so_far at.front at.answered,
      at.is.found,
    ) refl

-- the first answer with a fault is the fault of all parts
pub first_faulty : (before later : List Answer) (recipes : List Recipe) (count : ℕ) (fault told : ℕ × RecipeFault)
    → AreSoFar before recipes → count ≡ length recipes
    → ((front files more : List RecipeFile) (recipes : List Recipe) → map recipe_in_file front ≡ map Ok recipes → length recipes ≡ count
    → length (front ++ (files ++ more)) < 2 ^ 64 → FailsAt fault.0 fault.1 files → FailsAt told.0 told.1 (front ++ (files ++ more)))
    → (parts : List (List RecipeFile)) → AllZip IsReadOf parts (before ++ (Err fault ∷ later)) → length (flat parts) < 2 ^ 64
    → IsReadOf (flat parts) (Err told)
first_faulty before later recipes count fault told so_far is behind parts all fits =
    let at = at_answer parts before (Err fault) later all in
    let whole : flat parts ≡ flat at.front ++ (at.part ++ flat at.later) = flat_split parts before (Err fault) later at in
    let few : length (flat at.front ++ (at.part ++ flat at.later)) < 2 ^ 64 = rw whole at fits in
    record {
      found = tt;
      fault = rw whole (behind (flat at.front) at.part (flat at.later) recipes (so_far at.front at.answered) (sym is) few at.is.fault);
    }

-- ---- answers to each part

-- answers that are each that of their part stand beside the parts
pub each_read : {X : Type 0} (f : X → List RecipeFile) (parts : List X) (answers : List Answer) → length answers ≡ length parts
    → ((i : ℕ) (d : X) (e : Answer) → i < length answers → IsReadOf (f (get_or parts i d)) (get_or answers i e))
    → AllZip IsReadOf (map f parts) answers
each_read f [] [] same each = tt
each_read f [] (a ∷ answers) same each = absurd (omega arith)
each_read f (p ∷ parts) [] same each = absurd (omega arith)
each_read f (p ∷ parts) (a ∷ answers) same each =
    (each 0 p a (omega arith), each_read f parts answers (omega arith) (λ i d e h. each (suc i) d e (omega arith)))

-- the files of all parts are the files
pub flat_is : {X : Type 0} (f : X → List RecipeFile) (parts : List X) → flat_map (λ part. part) (map f parts) ≡ flat_map f parts
flat_is f [] = refl
flat_is f (p ∷ parts) = ap (λ (files : List RecipeFile). f p ++ files) (flat_is f parts)

-- no answers have no recipes
pub none_yet : AreSoFar [] []
none_yet parts all = ap (λ (ps : List (List RecipeFile)). map recipe_in_file (flat ps)) (none_left parts all)
