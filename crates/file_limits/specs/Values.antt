-- What the variants of a record are.
use Rattle.std.specs.Prelude.{ℕ, Bool, ◌&&◌, List, map}
use Rattle.std.specs.List.{list_all}
use Rattle.variant_values.specs.Texts.{byte_cmp}
use Rattle.keyed_lists.specs.Keyed.{rises}
pub use Rattle.settings_reader.specs.Values.{is_filled}
use Rattle.reuse_db.specs.declared.record.Record.{Record}

-- variants in byte order of their names, each with a value
abbrev pub are_valued : List (List ℕ × List (List ℕ)) → Bool
are_valued variants = rises byte_cmp (map (λ v. v.0) variants) && list_all (λ v. is_filled v.1) variants

abbrev pub has_values : Record → Bool
has_values entry = are_valued entry.variants
