-- A problem, and what is looked up in it.
use Rattle.std.specs.Prelude.{Bool, true, ◌&&◌, ℕ, ◌+◌, List, [], ◌∷◌, map, filter_map, find, Option, Some, None, option_and_then}
use Rattle.std.specs.Str.{bytes_eq}
use Rattle.condition_rules.specs.OfGraphCore.Graphs.{Text, Content}
use Rattle.condition_rules.specs.OfGraphCore.Node.{Node}
use Rattle.condition_rules.specs.OfGraphCore.Compiler.{Compiler}
use Rattle.condition_rules.specs.Worlds.{World, recipe_of, rows}
use Rattle.condition_rules.specs.Holds.{asked_node, all_hold}
use Rattle.condition_rules.specs.OfSpecGrammar.Spec.{Spec}
use Rattle.site_settings.specs.declared.settings.Settings.{Settings}
use Rattle.condition_rules.specs.OfConditions.Condition.{Condition}
use Rattle.condition_rules.specs.OfConditions.Recipe.{Recipe}
use Rattle.condition_rules.specs.OfConditions.VersionRow.{VersionRow}
use Rattle.condition_rules.specs.OfConditions.VariantRow.{VariantRow}
use Rattle.condition_rules.specs.OfConditions.DependRow.{DependRow}
use Rattle.recipe_data.specs.declared.recipe.ProvideRow.{ProvideRow}
use Rattle.condition_rules.specs.OfConditions.ConflictRow.{ConflictRow}
use Rattle.condition_rules.specs.OfConditions.RequireRow.{RequireRow}
use Rattle.site_settings.specs.declared.settings.PackageEntry.{PackageEntry}
use Rattle.site_settings.specs.declared.settings.ExternalEntry.{ExternalEntry}
use Rattle.site_settings.specs.declared.settings.RequireEntry.{RequireEntry}
use Rattle.reuse_db.specs.declared.record.Record.{Record}

-- all that decides which graphs are valid and what they cost
pub record Problem : Type 0 where
  -- in byte order of names, each name once
  pub recipes : List Recipe
  pub settings : Settings
  pub database : List Record
  -- the requested specs
  pub roots : List Spec

abbrev pub problem_of : List Recipe → Settings → List Record → List Spec → Problem
problem_of recipes settings database roots = record { recipes = recipes; settings = settings; database = database; roots = roots }

-- the names of the requested specs
abbrev pub root_names : Problem → List Text
root_names problem = filter_map (λ spec. spec.top.name) problem.roots

-- what conditions are read against
abbrev pub world_of : Problem → World
world_of problem = record { platform = problem.settings.platform; targets = problem.settings.targets; recipes = problem.recipes }

-- ---- recipes

abbrev pub recipe_at : Problem → Text → Option Recipe
recipe_at problem name = recipe_of (world_of problem) name

abbrev pub versions_at : Problem → Text → List VersionRow
versions_at problem name = rows (λ recipe. recipe.versions) (recipe_at problem name)

abbrev pub variants_at : Problem → Text → List VariantRow
variants_at problem name = rows (λ recipe. recipe.variants) (recipe_at problem name)

abbrev pub depends_at : Problem → Text → List DependRow
depends_at problem name = rows (λ recipe. recipe.depends) (recipe_at problem name)

abbrev pub provides_at : Problem → Text → List ProvideRow
provides_at problem name = rows (λ recipe. recipe.provides) (recipe_at problem name)

abbrev pub conflicts_at : Problem → Text → List ConflictRow
conflicts_at problem name = rows (λ recipe. recipe.conflicts) (recipe_at problem name)

abbrev pub requirements_at : Problem → Text → List RequireRow
requirements_at problem name = rows (λ recipe. recipe.requirements) (recipe_at problem name)

-- ---- settings

unfoldable pub package_entry_of : Problem → Text → Option PackageEntry
package_entry_of problem name = find (λ entry. bytes_eq entry.name name) problem.settings.packages

abbrev pub externals_in : Option PackageEntry → List ExternalEntry
externals_in None = []
externals_in (Some entry) = entry.externals

abbrev pub is_buildable_in : Option PackageEntry → Bool
is_buildable_in None = true
is_buildable_in (Some entry) = entry.buildable

-- a requirement of the settings as one of a recipe is, its place as its number
abbrev pub row_of : ℕ → RequireEntry → RequireRow
row_of place entry = record { specs = entry.specs; one_of = entry.one_of; when = entry.when; number = place }

abbrev pub rows_from : ℕ → List RequireEntry → List RequireRow
rows_from place [] = []
rows_from place (entry ∷ more) = row_of place entry ∷ rows_from (place + 1) more

abbrev pub required_in : Option PackageEntry → List RequireRow
required_in None = []
required_in (Some entry) = rows_from 0 entry.require

-- what the settings ask of each node of a package, whatever its origin
abbrev pub required_at : Problem → Text → List RequireRow
required_at problem name = required_in (package_entry_of problem name)

abbrev pub same_compiler : Compiler → Compiler → Bool
same_compiler a b = bytes_eq a.name b.name && bytes_eq a.version b.version

-- ---- records

unfoldable pub record_at : Problem → Text → Option Record
record_at problem hash = find (λ entry. bytes_eq entry.hash hash) problem.database

-- ---- directives at a node

-- the condition of a directive holds at the node
abbrev pub applies : Problem → Content → Condition → Node → Bool
applies problem graph when node = all_hold (world_of problem) when graph node.name

-- the node that a `depends_on` asks for
abbrev pub asked_by : Problem → Content → DependRow → Option Node
asked_by problem graph row = option_and_then (asked_node (world_of problem) graph) row.part.name

-- ---- the budget

-- the same problem with another budget
abbrev pub with_budget : ℕ → Problem → Problem
with_budget budget problem = record problem { settings = record problem.settings { conflict_budget = budget } }

-- ---- roots by themselves

-- the same problem with one requested spec alone
abbrev pub alone : Problem → Spec → Problem
alone problem root = record problem { roots = root ∷ [] }

-- the problem of each requested spec by itself
abbrev pub each_alone : Problem → List Problem
each_alone problem = map (alone problem) problem.roots
