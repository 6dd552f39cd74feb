-- Virtuals: names that recipes provide.
use Rattle.std.specs.Prelude.{◌≡◌, ◌↔◌, Bool, true, List, filter, find, Option, Some, Contains}
use Rattle.std.specs.List.{list_any}
use Rattle.std.specs.List.Sorted.{IsStrictlySortedBy}
use Rattle.std.specs.Str.{bytes_eq}
use Rattle.recipe_data.specs.OfVariantValues.Texts.{byte_cmp}
use Rattle.recipe_data.specs.OfKeyedLists.Keyed.{IsInOrder}
use Rattle.recipe_data.specs.OfGraphCore.Graphs.{Text, pair_cmp}
use Rattle.recipe_data.specs.declared.recipe.Recipe.{Recipe}
use Rattle.virtuals.specs.declared.clash.ProvidersFault.{ProvidersFault}
use Rattle.virtuals.specs.declared.clash.ProvidersFault.TheVariants.{NameClash, OutOfMemory}

abbrev pub recipe_name : Recipe → Text
recipe_name recipe = recipe.name

-- some row of the recipe provides the name
unfoldable pub provides_name : Text → Recipe → Bool
provides_name name recipe = list_any (λ row. bytes_eq row.name name) recipe.provides

-- some recipe provides the name
unfoldable pub is_virtual : List Recipe → Text → Bool
is_virtual recipes name = list_any (provides_name name) recipes

-- the first recipe whose name some recipe provides
abbrev pub clash : List Recipe → Option Recipe
clash recipes = find (λ recipe. is_virtual recipes recipe.name) recipes

-- why recipes have no table of providers
abbrev pub IsProvidersFault : List Recipe → ProvidersFault → Type 0
IsProvidersFault recipes (NameClash name) = (recipe : Recipe) × (clash recipes ≡ Some recipe) × (name ≡ recipe.name)
IsProvidersFault recipes OutOfMemory = Unit {0}

-- recipes in byte order of names, each name once
abbrev pub AreInOrder : List Recipe → Type 0
AreInOrder recipes = IsInOrder byte_cmp recipe_name recipes

-- pairs of a virtual and a package whose recipe provides it
abbrev pub Pairs : Type 0
Pairs = List (Text × Text)

-- a recipe of the package provides the virtual
abbrev pub IsProvider : List Recipe → Text → Text → Type 0
IsProvider recipes name provider = (recipe : Recipe) × Contains recipes recipe × (recipe.name ≡ provider)
    × (provides_name name recipe ≡ true)

-- just the pairs of a virtual and a package that may provide it, in byte order, each once
pub record AreProviders (recipes : List Recipe) (pairs : Pairs) : Type 0 where
  pub order : IsStrictlySortedBy pair_cmp pairs
  pub exact : (name provider : Text) → Contains pairs (name, provider) ↔ IsProvider recipes name provider

-- the virtual stands in some pair
abbrev pub has_pair : Pairs → Text → Bool
has_pair pairs name = list_any (λ pair. bytes_eq pair.0 name) pairs

-- the pairs of one virtual
abbrev pub pairs_of : Pairs → Text → Pairs
pairs_of pairs name = filter (λ pair. bytes_eq pair.0 name) pairs
