-- The settings that SETTINGS names, or the refusal that is due first.
use Rattle.std.specs.Prelude.{◌≡◌, ◌≢◌, ℕ, List, Bool, true, false, Result, Ok, Err}
use Rattle.outside_desk.specs.Files.{Files}
use Rattle.site_settings.specs.Standard.{standard}
use Rattle.site_settings.specs.declared.settings.Settings.{Settings}
use Rattle.settings_reader.specs.Files.{IsOfFile, IsSettingsFileFault}
use Rattle.settings_reader.specs.declared.fault.SettingsFault.{SettingsFault}
use Rattle.settings_reader.specs.declared.fault.SettingsFault.TheVariants.{OutOfMemory}
use Rattle.run_answers.specs.Stages.{Is, Then}
use Rattle.run_answers.specs.declared.refusal.Refusal.{Refusal}
use Rattle.run_answers.specs.declared.refusal.Refusal.TheVariants as refusals
use Rattle.run_input.specs.Bytes.{bytes_at}
use Rattle.run_input.specs.declared.file.WholeFile.TheVariants as kinds
use Rattle.run_words.specs.Words.{is_dash_path}

-- the bytes of the file at the path
abbrev pub settings_bytes : Files → List ℕ → Result (List ℕ) Refusal
settings_bytes files path = bytes_at files path kinds.Settings

-- the settings that a file says, or its fault
abbrev pub SettingsIn : List ℕ → Result Settings Refusal → Type 0
SettingsIn bytes (Ok settings) = IsOfFile bytes settings
SettingsIn bytes (Err refusal) = (f : SettingsFault) × IsSettingsFileFault bytes f × (f ≢ OutOfMemory) × (refusal ≡ refusals.BadSettings f)

-- `-` is the standard, and no file
abbrev pub SettingsBy : Bool → Files → List ℕ → Result Settings Refusal → Type 0
SettingsBy true files path = Is (Ok standard)
SettingsBy false files path = Then (Is (settings_bytes files path)) SettingsIn

-- the settings that a path names
abbrev pub SettingsAt : Files → List ℕ → Result Settings Refusal → Type 0
SettingsAt files path = SettingsBy (is_dash_path path) files path
