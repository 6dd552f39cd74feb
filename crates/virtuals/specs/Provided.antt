-- Rows of `provides` by the virtuals that they name.
use Rattle.std.specs.Prelude.{◌≡◌, Bool, List, map, filter}
use Rattle.std.specs.List.Sorted.{IsSortedBy}
use Rattle.std.specs.Ordering.{is_lt}
use Rattle.std.specs.Str.{bytes_eq}
use Rattle.recipe_data.specs.OfVariantValues.Texts.{byte_cmp}
use Rattle.recipe_data.specs.OfGraphCore.Graphs.{Text}
use Rattle.recipe_data.specs.declared.recipe.ProvideRow.{ProvideRow}
use Rattle.recipe_data.specs.declared.recipe.Recipe.{Recipe}

-- the virtual of the one row comes before that of the other
abbrev pub is_before : ProvideRow → ProvideRow → Bool
is_before row other = is_lt (byte_cmp row.name other.name)

-- the rows that name a virtual
abbrev pub naming : Text → List ProvideRow → List ProvideRow
naming name rows = filter (λ row. bytes_eq row.name name) rows

-- the rows stand by their virtuals, and those of one virtual as they were given
pub record AreByName (given rows : List ProvideRow) : Type 0 where
  pub sorted : IsSortedBy is_before rows
  pub same : (name : Text) → naming name rows ≡ naming name given

-- of each recipe in turn, the rows that name a virtual are those of the recipe
abbrev pub AreRowsOf : List Recipe → List (List ProvideRow) → Type 0
AreRowsOf recipes lists = (name : Text) → map (naming name) lists ≡ map (λ recipe. naming name recipe.provides) recipes
