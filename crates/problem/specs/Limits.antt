-- How large a problem is, and which problems are within the limits.
use Rattle.std.specs.Prelude.{ℕ, ◌+◌, ◌^◌, Bool, ◌&&◌, List, length, nat_le}
use Rattle.std.specs.List.{sum_by}
use Rattle.problem.specs.OfGraphCore.Graphs.{Text}
use Rattle.problem.specs.OfRecipeData.Recipe.{Recipe}
use Rattle.problem.specs.OfRecipeData.VariantRow.{VariantRow}
use Rattle.problem.specs.OfSiteSettings.ExternalEntry.{ExternalEntry}
use Rattle.site_settings.specs.declared.settings.PackageEntry.{PackageEntry}
use Rattle.site_settings.specs.declared.settings.Settings.{Settings}
use Rattle.problem.specs.OfReuseDb.Record.{Record}
use Rattle.problem.specs.Problems.{Problem}

-- ---- recipes: their rows, and the members of the value and default sets of their variants

abbrev pub set_members : VariantRow → ℕ
set_members row = length row.values + length row.default

abbrev pub rows_of : Recipe → ℕ
rows_of recipe = length recipe.versions + length recipe.variants + length recipe.depends + length recipe.provides
    + length recipe.conflicts + length recipe.requirements

abbrev pub size_of_recipe : Recipe → ℕ
size_of_recipe recipe = rows_of recipe + sum_by set_members recipe.variants

abbrev pub size_of_recipes : List Recipe → ℕ
size_of_recipes recipes = sum_by size_of_recipe recipes

-- ---- settings: OSs, targets, compilers, names in lists of providers, externals and their variant values, and requirements

abbrev pub variant_members : List (Text × List Text) → ℕ
variant_members variants = sum_by (λ variant. length variant.1) variants

abbrev pub external_members : ExternalEntry → ℕ
external_members entry = variant_members entry.variants

abbrev pub size_of_package : PackageEntry → ℕ
size_of_package entry = length entry.externals + sum_by external_members entry.externals + length entry.require

abbrev pub provider_names : Text × List Text → ℕ
provider_names list = length list.1

abbrev pub size_of_settings : Settings → ℕ
size_of_settings settings = length settings.os + length settings.targets + length settings.compilers
    + sum_by provider_names settings.providers + sum_by size_of_package settings.packages

-- ---- the database: its records, with their dependencies and variant values

abbrev pub record_members : Record → ℕ
record_members entry = length entry.dependencies + variant_members entry.variants

abbrev pub size_of_database : List Record → ℕ
size_of_database records = length records + sum_by record_members records

-- ---- the limits

-- how many names nodes of a problem's graphs may have
abbrev pub most_names : ℕ
most_names = 1024

abbrev pub are_few_rows : List Recipe → Bool
are_few_rows recipes = nat_le (size_of_recipes recipes) (2 ^ 28)

abbrev pub are_small : Settings → Bool
are_small settings = nat_le (size_of_settings settings) (2 ^ 24)

abbrev pub are_few_records : List Record → Bool
are_few_records records = nat_le (size_of_database records) (2 ^ 26)

unfoldable pub is_within_limits : Problem → Bool
is_within_limits problem = are_few_rows problem.recipes && are_small problem.settings && are_few_records problem.database
