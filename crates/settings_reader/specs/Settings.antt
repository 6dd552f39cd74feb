-- What a JSON value says as settings.
use Rattle.std.specs.Prelude.{◌≡◌, ℕ, List, [], ◌∷◌, codes, Option, Some, None, Ok, Err}
use Rattle.serde_json.specs.Data.{Data}
use Rattle.json_readers.specs.Objects.{known}
use Rattle.target_table.specs.Faults.{fault_of}
use Rattle.target_table.specs.declared.entry.TargetEntry.{TargetEntry}
use Rattle.target_table.specs.declared.fault.TargetFault.{TargetFault}
use Rattle.settings_reader.specs.Told.{ToldResult, Told, ◌>>=◌, done, misread, told_by}
use Rattle.settings_reader.specs.Order.{head_of, tail_of}
use Rattle.settings_reader.specs.Packages.{ArePackagesAt}
use Rattle.settings_reader.specs.declared.stop.What.TheVariants.{Targets}
use Rattle.site_settings.specs.declared.settings.Settings.{Settings}

abbrev pub settings_keys : List (List ℕ)
settings_keys = codes "compilers" ∷ codes "conflict_budget" ∷ codes "os" ∷ codes "packages" ∷ codes "platform"
    ∷ codes "provided_together" ∷ codes "providers" ∷ codes "targets" ∷ []

-- the targets, or their fault, which has no pointer
abbrev pub table_or : List TargetEntry → Option TargetFault → ToldResult (List TargetEntry)
table_or entries None = Ok entries
table_or entries (Some fault) = Err (misread (Targets fault) [])

abbrev pub IsTable : List TargetEntry → Told (List TargetEntry)
IsTable entries out = out ≡ table_or entries (fault_of entries)

-- the settings that a value says, or its first fault
abbrev pub IsSettings : Data → Told Settings
IsSettings d = do
  ms ← told_by (known settings_keys d)
  head ← told_by (head_of ms)
  targets ← IsTable head.targets
  tail ← told_by (tail_of ms)
  packages ← ArePackagesAt head.platform ms
  done (record {
    platform = head.platform;
    conflict_budget = head.conflict_budget;
    os = head.os;
    targets = targets;
    compilers =
        tail.compilers;
    providers = tail.providers;
    provided_together = tail.provided_together;
    packages = packages;
  })
