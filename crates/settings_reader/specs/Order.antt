-- The keys of the settings but `packages`, in their order.
use Rattle.std.specs.Prelude.{Ok}
use Rattle.serde_json.specs.Data.{Members}
use Rattle.json_readers.specs.Faults.{Reading, ◌>>=◌}
use Rattle.settings_reader.specs.Keys.{platform_at, budget_at, os_at, target_entries_at, compilers_at, provider_entries_at, provided_together_at}
use Rattle.settings_reader.specs.declared.read.SettingsHead.{SettingsHead}
use Rattle.settings_reader.specs.declared.read.Tail.{Tail}

-- the keys before the table of targets is made
unfoldable pub head_of : Members → Reading SettingsHead
head_of ms = do
  platform ← platform_at ms
  budget ← budget_at ms
  os ← os_at ms
  targets ← target_entries_at ms
  Ok (record { platform = platform; conflict_budget = budget; os = os; targets = targets })

-- the keys behind it
unfoldable pub tail_of : Members → Reading Tail
tail_of ms = do
  compilers ← compilers_at ms
  providers ← provider_entries_at ms
  together ← provided_together_at ms
  Ok (record { compilers = compilers; providers = providers; provided_together = together })
