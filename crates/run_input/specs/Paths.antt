-- Where the recipes of a repository stand.
use Rattle.std.specs.Prelude.{◌≡◌, ℕ, List, [], ◌∷◌, codes, Result, Err}
use Rattle.spec_grammar.specs.Signs.{IsName}
use Rattle.run_answers.specs.Lines.{joined_texts}
use Rattle.run_answers.specs.declared.stop.ReadStop.{ReadStop}
use Rattle.run_answers.specs.declared.stop.ReadStop.TheVariants as reads

-- the folder with the packages
unfoldable pub packages_path : List ℕ → List ℕ
packages_path repo = joined_texts (repo ∷ codes "/packages" ∷ [])

-- the recipe of a package
unfoldable pub recipe_path : List ℕ → List ℕ → List ℕ
recipe_path repo name = joined_texts (repo ∷ codes "/packages/" ∷ name ∷ codes "/package.py" ∷ [])

-- a device fails only while the recipe of the name is read
abbrev pub FailsAtEntry : {A : Type 0} → List ℕ → List ℕ → Result A ReadStop → Type 0
FailsAtEntry repo name (Err (reads.Fault path)) = IsName name × (path ≡ recipe_path repo name)
FailsAtEntry repo name other = Unit {0}
