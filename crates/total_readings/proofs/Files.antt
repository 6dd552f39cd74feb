-- Files of settings.
use Rattle.std.proofs.Common.{refl, ◌⊎◌, inl, inr, ℕ, List, Ok, Err}
use Rattle.serde_json.specs.Data.{Data}
use Rattle.json_readers.specs.Json.{IsJson, IsNoJson}
use Rattle.json_readers.specs.Objects.{known}
use Rattle.target_table.specs.Faults.{fault_of}
use Rattle.settings_reader.specs.Told.{ToldResult, told_by}
use Rattle.settings_reader.specs.Order.{head_of, tail_of}
use Rattle.settings_reader.specs.Packages.{ArePackagesAt}
use Rattle.settings_reader.specs.Settings.{IsSettings, IsTable, settings_keys, table_or}
use Rattle.settings_reader.specs.Files.{IsFirstFault, IsOfFile, with_pointer}
use Rattle.settings_reader.specs.declared.fault.SettingsFault.{SettingsFault}
use Rattle.site_settings.specs.declared.settings.Settings.{Settings}
use Rattle.total_readings.proofs.Jsons.{json_or_none}
use Rattle.total_readings.proofs.Steps.{Some-told, then_some, computed, is_done}
use Rattle.total_readings.proofs.Entries.{AreTotal, packages_some}

settings_some : AreTotal → (d : Data) → Some-told (IsSettings d)
settings_some total d =
    then_some (told_by (known settings_keys d)) _ (computed (known settings_keys d)) (λ ms.
    then_some (told_by (head_of ms)) _ (computed (head_of ms)) (λ head.
    then_some (IsTable head.targets) _ (table_or head.targets (fault_of head.targets), refl) (λ targets.
    then_some (told_by (tail_of ms)) _ (computed (tail_of ms)) (λ tail.
    then_some (ArePackagesAt head.platform ms) _ (packages_some total head.platform ms) (λ packages. is_done _)))))

-- settings, or no JSON, or the first fault of a value
abbrev pub IsSaid : List ℕ → Type 0
IsSaid bytes = ((settings : Settings) × IsOfFile bytes settings)
    ⊎ IsNoJson bytes ⊎ ((d : Data) × (f : SettingsFault) × IsJson bytes d × IsFirstFault d f)

by_value : (bytes : List ℕ) (d : Data) → IsJson bytes d → (out : ToldResult Settings) → IsSettings d out → IsSaid bytes
by_value bytes d json (Ok settings) right = inl (settings, (d, json, right))
by_value bytes d json (Err m) right =
    inr (inr (d, with_pointer m.what m.at, json, record { misread = m; first = right; is = refl }))

pub settings_said : AreTotal → (bytes : List ℕ) → IsSaid bytes
settings_said total bytes = elim (json_or_none bytes) [
  | inl (d, json) ↦ let some = settings_some total d in by_value bytes d json some.0 some.1
  | inr none ↦ inr (inl none)
]
