-- What may be demanded of a graph: that a root's spec holds, that a directive is kept, and what the settings ask.
use Rattle.std.specs.Prelude.{◌≡◌, ℕ, List, ◌++◌, map, filter_map, flat_map, length, slice_get}
use Rattle.std.specs.List.{range_with_len}
use Rattle.condition_rules.specs.OfConditions.Right.{numbers_of}
use Rattle.condition_rules.specs.OfConditions.Recipe.{Recipe}
use Rattle.site_settings.specs.declared.settings.PackageEntry.{PackageEntry}
use Rattle.problem.specs.Problems.{Problem}
use Rattle.problem.specs.declared.demand.Demand.{Demand}
use Rattle.problem.specs.declared.demand.Demand.TheVariants as demand

-- the directives by package and number
abbrev pub directives_of : List Recipe → List Demand
directives_of recipes = flat_map (λ recipe. map (demand.Directive recipe.name) (numbers_of recipe)) recipes

-- the requirements of the settings by package and place
abbrev pub settings_of : List PackageEntry → List Demand
settings_of packages = flat_map (λ entry. map (demand.Setting entry.name) (range_with_len 0 (length entry.require))) packages

-- the roots in order, then the directives, and then the requirements of the settings
unfoldable pub demands : Problem → List Demand
demands problem = (map demand.Root (range_with_len 0 (length problem.roots)) ++ directives_of problem.recipes)
    ++ settings_of problem.settings.packages

-- those of these numbers; one that no demand has asks nothing
abbrev pub demands_at : Problem → List ℕ → List Demand
demands_at problem numbers = filter_map (slice_get (demands problem)) numbers

-- a list of just the demands, in their order, where so many specs are requested
abbrev pub AreDemandsOfMost : ℕ → List Recipe → List PackageEntry → List Demand → Type 0
AreDemandsOfMost most recipes packages list =
    list ≡ (map demand.Root (range_with_len 0 most) ++ directives_of recipes) ++ settings_of packages
