-- What is written of externals.
use Rattle.std.specs.Prelude.{Bool, true, false, List, [], ◌∷◌}
use Rattle.std.specs.List.{list_all}
use Rattle.site_settings.specs.declared.settings.PackageEntry.{PackageEntry}
use Rattle.site_settings.specs.declared.settings.Settings.{Settings}

abbrev pub is_filled : {T : Type 0} → List T → Bool
is_filled [] = false
is_filled (x ∷ xs) = true

-- each variant that is written of an external of the package has a value
abbrev pub has_values : PackageEntry → Bool
has_values entry = list_all (λ external. list_all (λ v. is_filled v.1) external.variants) entry.externals

-- so it is of all packages
abbrev pub are_valued : Settings → Bool
are_valued settings = list_all has_values settings.packages
