-- How far a run has come where a device fails.
use Rattle.std.specs.Prelude.{◌≡◌, ◌⊎◌, ℕ, List, ◌∷◌, ◌++◌, Option, IfSome, Result, Ok, Err}
use Rattle.outside_desk.specs.Files.{Files}
use Rattle.outside_desk.specs.Listing.{names_in}
use Rattle.spec_grammar.specs.Signs.{IsName}
use Rattle.run_answers.specs.declared.refusal.Refusal.{Refusal}
use Rattle.run_answers.specs.declared.stop.ReadStop.{ReadStop}
use Rattle.run_answers.specs.declared.stop.ReadStop.TheVariants as reads
use Rattle.run_input.specs.Paths.{packages_path, recipe_path}
use Rattle.run_input.specs.Sources.{SourcePile, no_files, with_entries}

-- where the desk tells its files, this stage gives something: so what comes behind it is read
abbrev pub IsBehind : {A : Type 0} → Option Files → (Files → Result A Refusal → Type 0) → Type 0
IsBehind {A} told stage = IfSome told (λ files. (x : A) × stage files (Ok x))

-- ---- a repository

-- the name is one of these, and the recipes of those before it are within the limits
pub record IsNext (files : Files) (repo : List ℕ) (names : List (List ℕ)) (name : List ℕ) : Type 0 where
  pub before : List (List ℕ)
  pub after : List (List ℕ)
  pub among : names ≡ before ++ name ∷ after
  pub pile : SourcePile
  pub read : with_entries files repo no_files before ≡ Ok pile

-- the name stands in the folder, where the desk tells its files, and its recipe is read next
abbrev pub IsListed : Option Files → List ℕ → List ℕ → Type 0
IsListed told repo name = IfSome told (λ files. IsNext files repo (names_in files (packages_path repo)) name)

-- the path is that of the recipe of such a name
pub record IsRecipePath (told : Option Files) (repo path : List ℕ) : Type 0 where
  pub name : List ℕ
  pub is_name : IsName name
  pub listed : IsListed told repo name
  pub is_path : path ≡ recipe_path repo name

-- what is read of a repository: that folder, and the recipes of the names in it, one after the other
abbrev pub IsReadPath : Option Files → List ℕ → List ℕ → Type 0
IsReadPath told repo path = (path ≡ packages_path repo) ⊎ IsRecipePath told repo path

-- a device fails only while such a path is read
abbrev pub FailsInside : {A : Type 0} → Option Files → List ℕ → Result A ReadStop → Type 0
FailsInside told repo (Err (reads.Fault path)) = IsReadPath told repo path
FailsInside told repo other = Unit {0}

-- the path is that of the recipe of one of these names, which is read next
pub record IsEntryPath (told : Option Files) (repo : List ℕ) (names : List (List ℕ)) (path : List ℕ) : Type 0 where
  pub name : List ℕ
  pub is_name : IsName name
  pub next : IfSome told (λ files. IsNext files repo names name)
  pub is_path : path ≡ recipe_path repo name

-- a device fails only while such a path is read
abbrev pub FailsAmong : {A : Type 0} → Option Files → List ℕ → List (List ℕ) → Result A ReadStop → Type 0
FailsAmong told repo names (Err (reads.Fault path)) = IsEntryPath told repo names path
FailsAmong told repo names other = Unit {0}
