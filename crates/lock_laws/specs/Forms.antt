-- The forms of a problem's texts: each means itself, as what was read does.
use Rattle.std.specs.Prelude.{◌≡◌, [], All, IfSome, Some}
use Rattle.json_texts.specs.Forms.{name_meaning, value_meaning, version_in}
use Rattle.recipe_data.specs.declared.recipe.Recipe.{Recipe}
use Rattle.recipe_data.specs.declared.recipe.VariantRow.{VariantRow}
use Rattle.site_settings.specs.declared.settings.ExternalEntry.{ExternalEntry}
use Rattle.site_settings.specs.declared.settings.Settings.{Settings}
use Rattle.lockfile.specs.Again.{Has, IsCompiler, IsRecord, IsVariant}
use Rattle.lockfile.specs.Writable.{AreDependencies}
use Rattle.problem.specs.Problems.{Problem}

-- a definition of a variant: the values that are allowed, and those that are there where nothing else is asked
pub record IsFormedRow (row : VariantRow) : Type 0 where
  pub name : Has name_meaning row.name
  pub values : All (Has value_meaning) row.values
  pub default : IsVariant (row.name, row.default)

pub record IsFormedRecipe (recipe : Recipe) : Type 0 where
  pub name : Has name_meaning recipe.name
  pub versions : All (λ row. Has version_in row.version) recipe.versions
  pub variants : All IsFormedRow recipe.variants
  pub provides : All (λ row. Has name_meaning row.name) recipe.provides

-- what is written of an external
pub record IsFormedExternal (entry : ExternalEntry) : Type 0 where
  pub version : Has version_in entry.version
  pub variants : All IsVariant entry.variants
  pub compiler : IsCompiler entry.compiler
  pub os : IfSome entry.os (Has value_meaning)
  pub target : IfSome entry.target (Has value_meaning)

-- there is an OS and a target, since an external without one takes the first
pub record AreFormedSettings (settings : Settings) : Type 0 where
  pub os : All (Has value_meaning) settings.os
  pub some_os : settings.os ≡ [] → ⊥
  pub targets : All (λ entry. Has value_meaning entry.name) settings.targets
  pub some_target : settings.targets ≡ [] → ⊥
  pub compilers : All (λ entry. IsCompiler (Some entry.compiler)) settings.compilers
  pub packages : All (λ entry. Has name_meaning entry.name) settings.packages
  pub externals : All (λ entry. All IsFormedExternal entry.externals) settings.packages

pub record IsFormedProblem (problem : Problem) : Type 0 where
  pub recipes : All IsFormedRecipe problem.recipes
  pub settings : AreFormedSettings problem.settings
  pub database : All IsRecord problem.database
  pub dependencies : All (λ entry. AreDependencies entry.dependencies) problem.database
