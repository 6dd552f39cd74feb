-- What is said of packages.
use Rattle.std.specs.Prelude.{ℕ, true, List, [], ◌∷◌, codes}
use Rattle.std.specs.Option.{unwrap_or}
use Rattle.serde_json.specs.Data.{Data, Members}
use Rattle.serde_json.specs.Find.{get_member}
use Rattle.json_readers.specs.Objects.{known, may}
use Rattle.json_readers.specs.Maps.{named}
use Rattle.json_readers.specs.Texts.{truth_value}
use Rattle.json_texts.specs.Forms.{name_meaning}
use Rattle.settings_reader.specs.Told.{Told, ◌>>=◌, Below, done, told_by}
use Rattle.settings_reader.specs.Parsed.{AreEach, IsListAt, IsOptional, member_pairs}
use Rattle.settings_reader.specs.Versions.{IsVersionSet}
use Rattle.settings_reader.specs.Externals.{IsExternal}
use Rattle.settings_reader.specs.Required.{AreRequiredAt}
use Rattle.site_settings.specs.declared.settings.PackageEntry.{PackageEntry}

abbrev pub package_keys : List (List ℕ)
package_keys = codes "buildable" ∷ codes "externals" ∷ codes "require" ∷ codes "versions" ∷ []

-- what is said of a name
abbrev pub IsPackage : List ℕ → List ℕ → Data → Told PackageEntry
IsPackage name platform d = do
  ms ← told_by (known package_keys d)
  versions ← IsListAt IsVersionSet (codes "versions") ms
  buildable ← told_by (may truth_value (codes "buildable") ms)
  externals ← IsListAt (IsExternal name platform) (codes "externals") ms
  require ← AreRequiredAt ms
  done (record {
    name = name;
    versions = versions;
    buildable = unwrap_or buildable true;
    externals = externals;
    require = require;
  })

-- the packages one after another
abbrev pub AreEntries : List ℕ → Members → Told (List PackageEntry)
AreEntries platform ms = AreEach (λ name d. IsPackage name platform d) (member_pairs ms)

-- the packages by their names
abbrev pub ArePackages : List ℕ → Data → Told (List PackageEntry)
ArePackages platform d = do
  ms ← told_by (named name_meaning d)
  AreEntries platform ms

abbrev pub ArePackagesAt : List ℕ → Members → Told (List PackageEntry)
ArePackagesAt platform ms = Below (codes "packages") (IsOptional (ArePackages platform) (get_member (codes "packages") ms))
