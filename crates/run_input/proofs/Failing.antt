-- Where a device fails.
use Rattle.std.proofs.Common.{◌≡◌, subst, ℕ, List, Option, Some, None, IfSome, Result, Ok, Err, inl, inr}
use Rattle.outside_desk.specs.Files.{Files, StillTells}
use Rattle.outside_desk.proofs.Tellings.{held_still}
use Rattle.recipe_data.specs.declared.recipe.Recipe.{Recipe}
use Rattle.site_settings.specs.declared.settings.Settings.{Settings}
use Rattle.run_answers.specs.declared.refusal.Refusal.{Refusal}
use Rattle.run_answers.specs.declared.stop.ReadStop.{ReadStop}
use Rattle.run_answers.specs.declared.stop.ReadStop.TheVariants.{Refused, Fault, NoMemory}
use Rattle.run_answers.specs.Stops.{Gives}
use Rattle.run_words.specs.Words.{Command}
use Rattle.run_input.specs.Named.{FailsThere}
use Rattle.run_input.specs.Order.{FailsInside}
use Rattle.run_input.specs.Sites.{SettingsAt}
use Rattle.run_input.specs.Inputs.{FailsAtInput, FailsBehind, InRepository}

-- at one file
pub of_file : (A B : Type 0) (file : List ℕ) (stop : ReadStop) → FailsThere {A = A} file (Err stop) → FailsThere {A = B} file (Err stop)
of_file A B file (Refused refusal) there = tt
of_file A B file (Fault path) there = there
of_file A B file NoMemory there = tt

-- over the settings
pub of_settings : (A B : Type 0) (told : Option Files) (command : Command) (stop : ReadStop)
    → FailsThere {A = A} command.settings (Err stop)
    → FailsAtInput {A = B} told command (Err stop)
of_settings A B told command (Refused refusal) there = tt
of_settings A B told command (Fault path) there = inl there
of_settings A B told command NoMemory there = tt

-- over the repository
pub of_repository : (A B : Type 0) (told : Option Files) (command : Command) (stop : ReadStop)
    → FailsInside {A = A} told command.repo (Err stop)
    → FailsBehind {A = B} told command (Err stop)
of_repository A B told command (Refused refusal) inside = tt
of_repository A B told command (Fault path) inside = inl inside
of_repository A B told command NoMemory inside = tt

-- over any of these
pub of_stock : (A B : Type 0) (told : Option Files) (command : Command) (stop : ReadStop) → FailsAtInput {A = A} told command (Err stop)
    → FailsAtInput {A = B} told command (Err stop)
of_stock A B told command (Refused refusal) there = tt
of_stock A B told command (Fault path) there = there
of_stock A B told command NoMemory there = tt

-- ---- behind a stage that gave something

gave : (A : Type 0) (stage : List ℕ → Files → Result A Refusal → Type 0) (told : Option Files) (path at : List ℕ) (x : A) → path ≡ at
    → IfSome told (λ files. Gives {T = A} (Ok x) (stage path files)) → IfSome told (λ files. (y : A) × stage at files (Ok y))
gave A stage None path at x is read = tt
gave A stage (Some files) path at x is read = (x, subst (λ (p : List ℕ). stage p files (Ok x)) is read)

-- the database behind the recipes
pub behind_recipes : {B : Type 0} (between after : Option Files) (command : Command) (path : List ℕ) (recipes : List Recipe)
    (result : Result B ReadStop) → path ≡ command.repo → StillTells between after
    → IfSome between (λ files. Gives {T = List Recipe} (Ok recipes) (InRepository files path))
    → FailsThere command.database result → FailsBehind after command result
behind_recipes between after command path recipes (Ok x) is still read there = tt
behind_recipes between after command path recipes (Err (Refused refusal)) is still read there = tt
behind_recipes between after command path recipes (Err (Fault at)) is still read there =
    inr (
      gave (List Recipe) (λ p files. InRepository files p) after path command.repo recipes is
          (held_still (λ files. Gives {T = List Recipe} (Ok recipes) (InRepository files path)) between after still read),
      there,
    )
behind_recipes between after command path recipes (Err NoMemory) is still read there = tt

-- both behind the settings, where the desk tells its files still
pub behind_settings : {B : Type 0} (between after : Option Files) (command : Command) (path : List ℕ) (settings : Settings)
    (result : Result B ReadStop) → path ≡ command.settings → StillTells between after
    → IfSome between (λ files. Gives {T = Settings} (Ok settings) (SettingsAt files path))
    → FailsBehind after command result → FailsAtInput after command result
behind_settings between after command path settings (Ok x) is still read there = tt
behind_settings between after command path settings (Err (Refused refusal)) is still read there = tt
behind_settings between after command path settings (Err (Fault at)) is still read there =
    inr (
      gave Settings (λ p files. SettingsAt files p) after path command.settings settings is
          (held_still (λ files. Gives {T = Settings} (Ok settings) (SettingsAt files path)) between after still read),
      there,
    )
behind_settings between after command path settings (Err NoMemory) is still read there = tt
