-- The files of a made input.
use Rattle.std.specs.Prelude.{ℕ, zero, suc, ◌+◌, List, ◌++◌, codes, decimal}
use Rattle.std.specs.FinMap.{empty, insert}
use Rattle.outside_desk.specs.Files.{Files}
use Rattle.trial_input.specs.Recipes.{recipe}

unfoldable pub trial_recipe_path : ℕ → List ℕ
trial_recipe_path own = codes "repo/packages/p" ++ (decimal own ++ codes "/package.py")

-- files with so many recipes more, from package `own` on, of so many in all
abbrev pub with_recipes : ℕ → ℕ → ℕ → ℕ → Files → Files
with_recipes packages own zero state files = files
with_recipes packages own (suc count) state files =
    let made = recipe packages own state in
    with_recipes packages (own + 1) count made.state (insert files (trial_recipe_path own) made.text)

-- the files of an input of so many packages
unfoldable pub input_files : ℕ → ℕ → Files
input_files packages seed = with_recipes packages 0 packages seed empty
