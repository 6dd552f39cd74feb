-- The standard settings, key by key.
use Rattle.std.specs.Prelude.{Bool, ℕ, List, [], ◌∷◌, None, codes, false}
use Rattle.target_table.specs.declared.entry.TargetEntry.{TargetEntry}
use Rattle.site_settings.specs.declared.settings.CompilerEntry.{CompilerEntry}
use Rattle.site_settings.specs.declared.settings.Settings.{Settings}

abbrev pub platform : List ℕ
platform = codes "linux"

-- 2^64 - 1
abbrev pub conflict_budget : ℕ
conflict_budget = 18446744073709551615

abbrev pub os : List (List ℕ)
os = codes "ubuntu22.04" ∷ []

abbrev pub targets : List TargetEntry
targets = record { name = codes "x86_64"; parents = [] } ∷ []

abbrev pub compilers : List CompilerEntry
compilers = record { compiler = record { name = codes "gcc"; version = codes "12.3.0" }; os = None; targets = None } ∷ []

-- each virtual by itself
abbrev pub provided_together : Bool
provided_together = false

abbrev pub standard : Settings
standard = record {
  platform = platform;
  conflict_budget = conflict_budget;
  os = os;
  targets = targets;
  compilers = compilers;
  providers =
      [];
  provided_together = provided_together;
  packages = [];
}
