-- What conditions are read against.
use Rattle.std.specs.Prelude.{List, [], Option, Some, None}
use Rattle.virtuals.specs.OfVariantValues.Texts.{byte_cmp}
use Rattle.virtuals.specs.OfKeyedLists.Keyed.{find_key}
use Rattle.target_table.specs.declared.entry.TargetEntry.{TargetEntry}
use Rattle.virtuals.specs.OfGraphCore.Graphs.{Text}
use Rattle.virtuals.specs.OfConditions.Recipe.{Recipe}
use Rattle.virtuals.specs.Virtuals.{recipe_name}

-- the machine's platform, the targets in order of preference, and the recipes in byte order of names
pub record World : Type 0 where
  pub platform : Text
  pub targets : List TargetEntry
  pub recipes : List Recipe

-- the recipe of a package
unfoldable pub recipe_of : World → Text → Option Recipe
recipe_of world name = find_key byte_cmp recipe_name world.recipes name

-- rows of a package's recipe, and none where it has no recipe
abbrev pub rows : {R : Type 0} → (Recipe → List R) → Option Recipe → List R
rows field None = []
rows field (Some recipe) = field recipe
