-- Weights: smaller is better.
use Rattle.std.specs.Prelude.{Bool, ◌&&◌, ℕ, List, [], length, find, count_by, Option, Some, None}
use Rattle.std.specs.List.{list_any, position_or_len}
use Rattle.std.specs.Str.{bytes_eq}
use Rattle.std.specs.Ordering.{ordering_then, nat_cmp, bool_cmp, is_lt}
use Rattle.std.specs.declared.cmp.Ordering.{Ordering}
use Rattle.version_order.specs.Order.{version_cmp}
use Rattle.version_order.specs.Prefix.{is_special}
use Rattle.version_order.specs.Sets.{set_contains}
use Rattle.version_order.specs.declared.item.Item.{Item as Range}
use Rattle.graph_core.specs.Graphs.{Text}
use Rattle.graph_core.specs.declared.node.Compiler.{Compiler}
use Rattle.recipe_data.specs.declared.recipe.VersionRow.{VersionRow}
use Rattle.problem.specs.Problems.{versions_at, package_entry_of, same_compiler, Problem}
use Rattle.site_settings.specs.declared.settings.PackageEntry.{PackageEntry}

-- ---- versions

abbrev pub listed_in : Option PackageEntry → List (List Range)
listed_in None = []
listed_in (Some entry) = entry.versions

-- the place of the first list of the settings that contains the version, or their number
abbrev pub preference : List (List Range) → Text → ℕ
preference lists version = position_or_len (λ set. set_contains set version) lists

-- the sort of declared versions: by the settings' lists, preferred first, not deprecated first, without a
-- special component first, newer first
unfoldable pub row_cmp : List (List Range) → VersionRow → VersionRow → Ordering
row_cmp lists a b =
    ordering_then (nat_cmp (preference lists a.version) (preference lists b.version))
    (ordering_then (bool_cmp b.preferred a.preferred)
    (ordering_then (bool_cmp a.deprecated b.deprecated)
    (ordering_then (bool_cmp (is_special a.version) (is_special b.version))
    (version_cmp b.version a.version))))

-- how many rows come before this one in the sort
abbrev pub place_of : List (List Range) → List VersionRow → VersionRow → ℕ
place_of lists rows row = count_by (λ other. is_lt (row_cmp lists other row)) rows

abbrev pub place_or_number : List (List Range) → List VersionRow → Option VersionRow → ℕ
place_or_number lists rows None = length rows
place_or_number lists rows (Some row) = place_of lists rows row

-- the place of the version's row in the sort, or the number of rows where it is not declared
unfoldable pub version_weight : Problem → Text → Text → ℕ
version_weight problem name version =
    let rows = versions_at problem name in
    place_or_number (listed_in (package_entry_of problem name)) rows (find (λ row. bytes_eq row.version version) rows)

unfoldable pub is_deprecated : Problem → Text → Text → Bool
is_deprecated problem name version = list_any (λ row. bytes_eq row.version version && row.deprecated) (versions_at problem name)

-- ---- places in the settings' lists, or their length

abbrev pub place_in : List Text → Text → ℕ
place_in texts text = position_or_len (bytes_eq text) texts

abbrev pub os_weight : Problem → Text → ℕ
os_weight problem name = place_in problem.settings.os name

abbrev pub target_weight : Problem → Text → ℕ
target_weight problem name = position_or_len (λ entry. bytes_eq name entry.name) problem.settings.targets

-- an absent compiler weighs nothing
abbrev pub compiler_weight : Problem → Option Compiler → ℕ
compiler_weight problem None = 0
compiler_weight problem (Some compiler) = position_or_len (λ entry. same_compiler entry.compiler compiler) problem.settings.compilers

abbrev pub packages_in : Option (Text × List Text) → List Text
packages_in None = []
packages_in (Some p) = p.1

abbrev pub provider_weight : Problem → (Text × Text) → ℕ
provider_weight problem p = place_in (packages_in (find (λ q. bytes_eq q.0 p.0) problem.settings.providers)) p.1
