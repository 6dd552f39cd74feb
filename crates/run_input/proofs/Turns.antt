-- Files that are read in turns.
use Rattle.std.proofs.Common.{◌≡◌, refl, sym, ap, subst, ◌∙◌, ℕ, true, List, [], ◌∷◌, ◌++◌, map, take, drop, take-append-drop, Result, Ok, Err}
use Rattle.std.specs.List.{list_all}
use Rattle.std.proofs.lemmas.Bool.{and_from}
use Rattle.std.proofs.lemmas.List.{append-nil, append_assoc, map-append}
use Rattle.std.proofs.lemmas.List.Folds.{list_all-append}
use Rattle.recipe_data.specs.Right.{is_right_recipe}
use Rattle.recipe_data.specs.declared.recipe.Recipe.{Recipe}
use Rattle.recipe_reader.specs.Files.{recipe_in_file}
use Rattle.recipe_reader.specs.declared.files.RecipeFile.{RecipeFile}
use Rattle.virtuals.specs.Virtuals.{recipe_name}
use Rattle.run_answers.specs.Stages.{Is, ◌>>=◌}
use Rattle.run_answers.specs.Stops.{Gives}
use Rattle.run_answers.specs.declared.refusal.Refusal.{Refusal}
use Rattle.run_answers.specs.declared.stop.ReadStop.{ReadStop}
use Rattle.run_answers.specs.declared.stop.ReadStop.TheVariants as reads
use Rattle.run_answers.proofs.StageLaws.{ok_not_err}
use Rattle.run_input.specs.Sources.{Source, source_of}
use Rattle.run_input.specs.Recipes.{recipe_of_source, recipes_of}
use Rattle.run_input.proofs.Files.{heads, tails}

abbrev Names : Type 0
Names = List (List ℕ)

abbrev pub names_in : List RecipeFile → Names
names_in files = map (λ (source : Source). source.0) (map source_of files)

-- the files in front were read
pub record IsDone (files rest : List RecipeFile) (recipes : List Recipe) : Type 0 where
  pub front : List RecipeFile
  pub is : front ++ rest ≡ files
  pub found : map recipe_in_file front ≡ map Ok recipes
  pub right : list_all is_right_recipe recipes ≡ true
  pub names : map recipe_name recipes ≡ names_in front

pub none_done : (files : List RecipeFile) (recipes : List Recipe) → recipes ≡ [] → IsDone files files recipes
none_done files [] is = record { front = []; is = refl; found = refl; right = refl; names = refl }
none_done files (r ∷ recipes) is = absurd cc

-- ---- a turn more

names_more : (front turn : List RecipeFile) → names_in (front ++ turn) ≡ names_in front ++ names_in turn
names_more front turn =
    ap (map (λ (source : Source). source.0)) (map-append source_of front turn)
    ∙ map-append (λ (source : Source). source.0) (map source_of front) (map source_of turn)

pub turn_done : (files rest turn later : List RecipeFile) (recipes more both : List Recipe) → IsDone files rest recipes
    → turn ++ later ≡ rest → both ≡ recipes ++ more → map recipe_in_file turn ≡ map Ok more
    → list_all is_right_recipe more ≡ true → map recipe_name more ≡ names_in turn → IsDone files later both
turn_done files rest turn later recipes more both done cut is found right names =
    subst (IsDone files later) (sym is) (record {
      front = done.front ++ turn;
      is = append_assoc done.front turn later ∙ (ap (λ (l : List RecipeFile). done.front ++ l) cut ∙ done.is);
      found =
          map-append recipe_in_file done.front turn
          ∙ (rw (done.found, found) (sym (map-append Ok recipes more)));
      right =
          list_all-append is_right_recipe recipes more
          ∙ and_from (list_all is_right_recipe recipes) (list_all is_right_recipe more) done.right right;
      names =
          map-append recipe_name recipes more
          ∙ (rw (done.names, names) (sym (names_more done.front turn)));
    })

-- ---- a turn that stops

err_before : (e : Refusal) (here : Result Recipe Refusal) (rest longer : Result (List Recipe) Refusal)
    → (rest ≡ Err e → longer ≡ Err e) → (here >>= λ r. rest >>= λ rs. Ok (r ∷ rs)) ≡ Err e
    → (here >>= λ r. longer >>= λ rs. Ok (r ∷ rs)) ≡ Err e
err_before e (Err x) rest longer keep err = err
err_before e (Ok r) (Ok rs) longer keep err = ok_not_err (r ∷ rs) e err
err_before e (Ok r) (Err x) longer keep err = rw (keep err) refl

-- files behind one that is refused change nothing
refused_before : (files more : List RecipeFile) (e : Refusal) → recipes_of (map source_of files) ≡ Err e
    → recipes_of (map source_of (files ++ more)) ≡ Err e
refused_before [] more e err = ok_not_err [] e err
refused_before (f ∷ files) more e err =
    err_before e (recipe_of_source (source_of f)) (recipes_of (map source_of files)) (recipes_of (map source_of (files ++ more)))
    (refused_before files more e) err

-- nor do recipes before it
refused_behind : (front files : List RecipeFile) (recipes : List Recipe) (e : Refusal) → map recipe_in_file front ≡ map Ok recipes
    → recipes_of (map source_of files) ≡ Err e → recipes_of (map source_of (front ++ files)) ≡ Err e
refused_behind [] files recipes e found err = err
refused_behind (f ∷ front) files [] e found err = absurd cc
refused_behind (f ∷ front) files (r ∷ recipes) e found err =
    rw (
      heads (recipe_in_file f) (Ok r) (map recipe_in_file front) (map Ok recipes) found,
      refused_behind front files recipes e
          (tails (recipe_in_file f) (Ok r) (map recipe_in_file front) (map Ok recipes) found) err,
    ) refl

pub turn_stops : (files rest turn later : List RecipeFile) (recipes : List Recipe) (stop : ReadStop) → IsDone files rest recipes
    → turn ++ later ≡ rest → Gives {T = List Recipe} (Err stop) (Is (recipes_of (map source_of turn)))
    → Gives {T = List Recipe} (Err stop) (Is (recipes_of (map source_of files)))
turn_stops files rest turn later recipes (reads.Refused refusal) done cut read =
    sym (subst (λ (l : List RecipeFile). recipes_of (map source_of l) ≡ Err refusal)
    (ap (λ (l : List RecipeFile). done.front ++ l) cut ∙ done.is)
    (refused_behind done.front (turn ++ later) recipes refusal done.found (refused_before turn later refusal (sym read))))
turn_stops files rest turn later recipes (reads.Fault path) done cut read = tt
turn_stops files rest turn later recipes reads.NoMemory done cut read = tt

-- ---- all turns

pub all_done : (files rest : List RecipeFile) (recipes : List Recipe) → IsDone files rest recipes → rest ≡ []
    → (map recipe_in_file files ≡ map Ok recipes) × (list_all is_right_recipe recipes ≡ true)
    × (map recipe_name recipes ≡ names_in files)
all_done files rest recipes done none =
    let all : done.front ≡ files = sym (append-nil done.front) ∙ (ap (λ (l : List RecipeFile). done.front ++ l) (sym none) ∙ done.is) in
    subst (λ (l : List RecipeFile). (map recipe_in_file l ≡ map Ok recipes) × (list_all is_right_recipe recipes ≡ true)
    × (map recipe_name recipes ≡ names_in l)) all (done.found, done.right, done.names)

-- ---- where a list is cut

pub cut_at : (n : ℕ) (rest turn later : List RecipeFile) → turn ≡ take n rest → later ≡ drop n rest → turn ++ later ≡ rest
cut_at n rest turn later front back = rw (front, back) (take-append-drop n rest)
