-- What a file of settings says.
use Rattle.std.specs.Prelude.{◌≡◌, ◌⊎◌, ℕ, List, Ok, Err}
use Rattle.serde_json.specs.Data.{Data}
use Rattle.json_readers.specs.Json.{IsJson, IsNoJson}
use Rattle.settings_reader.specs.Settings.{IsSettings}
use Rattle.settings_reader.specs.declared.stop.Misread.{Misread}
use Rattle.settings_reader.specs.declared.stop.Stop.{Stop}
use Rattle.settings_reader.specs.declared.stop.Stop.TheVariants as stop
use Rattle.settings_reader.specs.declared.stop.What.{What}
use Rattle.settings_reader.specs.declared.stop.What.TheVariants as what
use Rattle.site_settings.specs.declared.settings.Settings.{Settings}
use Rattle.settings_reader.specs.declared.fault.SettingsFault.{SettingsFault}
use Rattle.settings_reader.specs.declared.fault.SettingsFault.TheVariants as fault

-- a fault, from what is wrong and its pointer
abbrev pub with_pointer : What → List ℕ → SettingsFault
with_pointer what.UnknownKey at = fault.UnknownKey at
with_pointer what.WrongKind at = fault.WrongKind at
with_pointer what.Empty at = fault.Empty at
with_pointer what.TwiceNamed at = fault.TwiceNamed at
with_pointer (what.Spec f) at = fault.Spec at f
with_pointer what.BadExternal at = fault.BadExternal at
with_pointer (what.Targets f) at = fault.Targets f

abbrev pub fault_of : Stop → SettingsFault
fault_of (stop.Misread m) = with_pointer m.what m.at
fault_of stop.OutOfMemory = fault.OutOfMemory

-- this is the first fault of a value
pub record IsFirstFault (d : Data) (f : SettingsFault) : Type 0 where
  pub misread : Misread
  pub first : IsSettings d (Err misread)
  pub is : f ≡ with_pointer misread.what misread.at

-- want of memory may come in place of any answer
abbrev pub IsFaultOf : Data → SettingsFault → Type 0
IsFaultOf d f = (f ≡ fault.OutOfMemory) ⊎ IsFirstFault d f

-- ---- files

-- the bytes are the JSON text of a value that says these settings
abbrev pub IsOfFile : List ℕ → Settings → Type 0
IsOfFile bytes settings = (d : Data) × IsJson bytes d × IsSettings d (Ok settings)

-- the bytes are no JSON text, or that of a value with this fault; want of memory may come instead
abbrev pub IsSettingsFileFault : List ℕ → SettingsFault → Type 0
IsSettingsFileFault bytes f = (f ≡ fault.OutOfMemory) ⊎ ((f ≡ fault.NotJson) × IsNoJson bytes)
    ⊎ ((d : Data) × IsJson bytes d × IsFirstFault d f)
