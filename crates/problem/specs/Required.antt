-- What the settings ask of packages, as a list in order by names.
use Rattle.std.specs.Prelude.{◌≡◌, List, [], find, Option, Some, None}
use Rattle.std.specs.Option.{option_map}
use Rattle.std.specs.Str.{bytes_eq}
use Rattle.keyed_lists.specs.Keyed.{IsInOrder, find_key}
use Rattle.keyed_lists.specs.OfVariantValues.Texts.{byte_cmp}
use Rattle.condition_rules.specs.OfGraphCore.Graphs.{Text}
use Rattle.condition_rules.specs.OfConditions.RequireRow.{RequireRow}
use Rattle.site_settings.specs.declared.settings.PackageEntry.{PackageEntry}
use Rattle.problem.specs.Problems.{rows_from}

abbrev pub named_rows : PackageEntry → Text × List RequireRow
named_rows entry = (entry.name, rows_from 0 entry.require)

abbrev pub rows_in : Option (Text × List RequireRow) → List RequireRow
rows_in None = []
rows_in (Some named) = named.1

-- each name once, and at a name what its first entry asks
pub record AreNamedRows (packages : List PackageEntry) (named : List (Text × List RequireRow)) : Type 0 where
  pub ordered : IsInOrder byte_cmp (λ n. n.0) named
  pub there : (name : Text) → find_key byte_cmp (λ n. n.0) named name
      ≡ option_map named_rows (find (λ entry. bytes_eq entry.name name) packages)
