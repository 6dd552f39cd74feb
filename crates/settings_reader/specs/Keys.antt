-- The keys of the settings but `packages`, each with its standard.
use Rattle.std.specs.Prelude.{Bool, ℕ, List, [], codes, Ok}
use Rattle.std.specs.Option.{unwrap_or}
use Rattle.serde_json.specs.Data.{Data, Members}
use Rattle.json_readers.specs.Faults.{Reading, ◌>>=◌}
use Rattle.json_readers.specs.Texts.{text_of, truth_value, whole_number}
use Rattle.json_readers.specs.Objects.{may}
use Rattle.json_readers.specs.Maps.{known_map_of}
use Rattle.json_texts.specs.Forms.{name_meaning, value_meaning}
use Rattle.target_table.specs.declared.entry.TargetEntry.{TargetEntry}
use Rattle.settings_reader.specs.Lists.{compiler_list, os_list, provider_list, target_list}
use Rattle.site_settings.specs.Standard as standard
use Rattle.site_settings.specs.declared.settings.CompilerEntry.{CompilerEntry}

-- what stands at a key, or else the standard
abbrev pub may_or : {T : Type 0} → T → (Data → Reading T) → List ℕ → Members → Reading T
may_or standard read key ms = may read key ms >>= λ found. Ok (unwrap_or found standard)

abbrev pub platform_at : Members → Reading (List ℕ)
platform_at = may_or standard.platform (text_of value_meaning) (codes "platform")

abbrev pub budget_at : Members → Reading ℕ
budget_at = may_or standard.conflict_budget whole_number (codes "conflict_budget")

abbrev pub os_at : Members → Reading (List (List ℕ))
os_at = may_or standard.os os_list (codes "os")

abbrev pub target_entries_at : Members → Reading (List TargetEntry)
target_entries_at = may_or standard.targets target_list (codes "targets")

abbrev pub compilers_at : Members → Reading (List CompilerEntry)
compilers_at = may_or standard.compilers compiler_list (codes "compilers")

abbrev pub provider_entries_at : Members → Reading (List (List ℕ × List (List ℕ)))
provider_entries_at = may_or [] (known_map_of name_meaning provider_list) (codes "providers")

abbrev pub provided_together_at : Members → Reading Bool
provided_together_at = may_or standard.provided_together truth_value (codes "provided_together")
