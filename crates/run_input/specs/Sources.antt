-- The recipe files of a repository, or the refusal that is due first.
use Rattle.std.specs.Prelude.{◌≡◌, ℕ, ◌+◌, ◌^◌, nat_lt, nat_le, List, [], ◌∷◌, ◌++◌, map, length, Option, Some, None, Result, Ok, Err, if◌then◌else◌}
use Rattle.std.specs.List.{sum_by}
use Rattle.std.specs.FinMap.{get}
use Rattle.outside_desk.specs.Files.{Files}
use Rattle.outside_desk.specs.Listing.{names_in}
use Rattle.spec_grammar.specs.Signs.{is_name}
use Rattle.recipe_reader.specs.declared.files.RecipeFile.{RecipeFile}
use Rattle.run_answers.specs.Stages.{◌>>=◌}
use Rattle.run_answers.specs.declared.refusal.Refusal.{Refusal}
use Rattle.run_answers.specs.declared.refusal.Refusal.TheVariants as refusals
use Rattle.run_answers.specs.declared.stop.ReadStop.{ReadStop}
use Rattle.run_answers.specs.declared.stop.ReadStop.TheVariants as reads
use Rattle.run_input.specs.Paths.{packages_path, recipe_path}

-- the name of a package, and the bytes of its recipe
abbrev pub Source : Type 0
Source = List ℕ × List ℕ

abbrev pub source_of : RecipeFile → Source
source_of file = (file.name, file.bytes.items)

-- how many bytes recipe files have together
abbrev pub bytes_in : List Source → ℕ
bytes_in sources = sum_by (λ (source : Source). length source.1) sources

-- recipe files, and how many bytes they have together
pub record SourcePile : Type 0 where
  pub files : List Source
  pub total : ℕ

-- the names of their packages
abbrev pub names_of : SourcePile → List (List ℕ)
names_of pile = map (λ (source : Source). source.0) pile.files

abbrev pub no_files : SourcePile
no_files = record { files = []; total = 0 }

-- a file more: at most 16,384 files, of 1 MiB each, of 256 MiB together
unfoldable pub with_source : SourcePile → List ℕ → List ℕ → Result SourcePile Refusal
with_source pile name bytes =
    if nat_le (2 ^ 14) (length pile.files) then Err refusals.TooManyRecipes
    else if nat_lt (2 ^ 20) (length bytes) then Err (refusals.RecipeTooLarge name)
    else if nat_lt (2 ^ 28) (pile.total + length bytes) then Err refusals.RecipesTooLarge
    else Ok (record { files = pile.files ++ (name, bytes) ∷ []; total = pile.total + length bytes })

-- what an entry of the folder is: a recipe, where its name is a NAME and the file is there
unfoldable pub recipe_file_at : Files → List ℕ → List ℕ → Option (List ℕ)
recipe_file_at files repo name = if is_name name then get files (recipe_path repo name) else None

-- an entry without a recipe is passed over
abbrev pub with_entry : SourcePile → List ℕ → Option (List ℕ) → Result SourcePile Refusal
with_entry pile name None = Ok pile
with_entry pile name (Some bytes) = with_source pile name bytes

-- one entry after the other
abbrev pub with_entries : Files → List ℕ → SourcePile → List (List ℕ) → Result SourcePile Refusal
with_entries files repo pile [] = Ok pile
with_entries files repo pile (name ∷ names) =
    with_entry pile name (recipe_file_at files repo name) >>= λ next. with_entries files repo next names

abbrev pub pile_by : Files → List ℕ → List (List ℕ) → Result SourcePile Refusal
pile_by files repo [] = Err (refusals.MissingInput (packages_path repo))
pile_by files repo (name ∷ names) = with_entries files repo no_files (name ∷ names)

-- the recipe files of the repository
unfoldable pub pile_of : Files → List ℕ → Result SourcePile Refusal
pile_of files repo = pile_by files repo (names_in files (packages_path repo))

-- what a call that changes a pile answers and leaves; a device's fault or want of memory may come instead
abbrev pub Leaves : Result SourcePile Refusal → SourcePile → Result (Unit {0}) ReadStop → Type 0
Leaves given after (Ok done) = given ≡ Ok after
Leaves given after (Err (reads.Refused refusal)) = given ≡ Err refusal
Leaves given after (Err (reads.Fault path)) = Unit {0}
Leaves given after (Err reads.NoMemory) = Unit {0}
