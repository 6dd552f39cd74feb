-- The words in which the laws speak of versions and graphs.
use Rattle.std.specs.Prelude.{◌≡◌, ℕ, List, filter, count_by, find, Some}
use Rattle.std.specs.Str.{bytes_eq}
use Rattle.version_order.specs.Prefix.{is_special}
use Rattle.graph_core.specs.Graphs.{Text, Content}
use Rattle.recipe_data.specs.declared.recipe.VersionRow.{VersionRow}
use Rattle.problem.specs.Nodes.{is_built}
use Rattle.problem.specs.Problems.{Problem, package_entry_of, versions_at}
use Rattle.graph_rules.specs.Costs.{stopped}
use Rattle.graph_rules.specs.Weights.{is_deprecated, listed_in, packages_in, preference, version_weight}

-- ---- versions

-- the package's recipe declares the version by this row, the first with its text
abbrev pub IsDeclared : Problem → Text → VersionRow → Type 0
IsDeclared problem name row = find (λ r. bytes_eq r.version row.version) (versions_at problem name) ≡ Some row

abbrev pub weight_of : Problem → Text → VersionRow → ℕ
weight_of problem name row = version_weight problem name row.version

-- of the lists of versions that the settings have for the package, the first that has this one, or their number
abbrev pub list_of : Problem → Text → VersionRow → ℕ
list_of problem name row = preference (listed_in (package_entry_of problem name)) row.version

-- nothing but their age tells them apart: most have no list, and are neither preferred nor deprecated nor special
pub record AreAlike (problem : Problem) (name : Text) (a b : VersionRow) : Type 0 where
  pub list : list_of problem name a ≡ list_of problem name b
  pub preferred : a.preferred ≡ b.preferred
  pub deprecated : a.deprecated ≡ b.deprecated
  pub special : is_special a.version ≡ is_special b.version

-- ---- providers

-- the packages that the settings name for a virtual
abbrev pub providers_of : Problem → Text → List Text
providers_of problem virtual = packages_in (find (λ q. bytes_eq q.0 virtual) problem.settings.providers)

-- ---- graphs

-- how many of the nodes to build have a deprecated version
abbrev pub deprecated_builds : Problem → Content → ℕ
deprecated_builds problem graph =
    stopped (count_by (λ node. is_deprecated problem node.name node.version) (filter is_built graph.nodes))
