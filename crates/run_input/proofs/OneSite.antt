-- A path names one settings at most.
use Rattle.std.proofs.Common.{◌≡◌, ◌≢◌, ℕ, List, Bool, true, false, ap, sym, ◌∙◌, Ok, Err}
use Rattle.outside_desk.specs.Files.{Files}
use Rattle.site_settings.specs.Standard.{standard}
use Rattle.site_settings.specs.declared.settings.Settings.{Settings}
use Rattle.settings_reader.specs.Files.{IsOfFile, IsSettingsFileFault}
use Rattle.settings_reader.specs.declared.fault.SettingsFault.{SettingsFault}
use Rattle.settings_reader.specs.declared.fault.SettingsFault.TheVariants.{OutOfMemory}
use Rattle.run_answers.specs.Stages.{Is}
use Rattle.run_answers.specs.declared.refusal.Refusal.TheVariants.{BadSettings}
use Rattle.run_answers.proofs.StageLaws.{IsOne, one_is, one_then}
use Rattle.run_words.specs.Words.{is_dash_path}
use Rattle.run_input.specs.Sites.{settings_bytes, SettingsIn, SettingsBy, SettingsAt}

-- what holds of reading settings
pub record ReadsOnce : Type 0 where
  pub reading : (bytes : List ℕ) (a b : Settings) → IsOfFile bytes a → IsOfFile bytes b → a ≡ b
  pub fault : (bytes : List ℕ) (f g : SettingsFault) → IsSettingsFileFault bytes f → IsSettingsFileFault bytes g → f ≢ OutOfMemory
      → g ≢ OutOfMemory → f ≡ g
  pub right : (bytes : List ℕ) (settings : Settings) (f : SettingsFault) → IsOfFile bytes settings → IsSettingsFileFault bytes f
      → f ≡ OutOfMemory

one_in : ReadsOnce → (bytes : List ℕ) → IsOne (SettingsIn bytes)
one_in laws bytes (Ok a) (Ok b) p q = ap Ok (laws.reading bytes a b p q)
one_in laws bytes (Ok a) (Err b) p (f, is, other, same) = absurd (other (laws.right bytes a f p is))
one_in laws bytes (Err a) (Ok b) (f, is, other, same) q = absurd (other (laws.right bytes b f q is))
one_in laws bytes (Err a) (Err b) (f, is, other, same) (g, as_well, not, too) =
    ap Err (same ∙ ap BadSettings (laws.fault bytes f g is as_well other not) ∙ sym too)

one_by : ReadsOnce → (dash : Bool) (files : Files) (path : List ℕ) → IsOne (SettingsBy dash files path)
one_by laws true files path = one_is (Ok standard)
one_by laws false files path = one_then (Is (settings_bytes files path)) SettingsIn (one_is (settings_bytes files path)) (one_in laws)

-- by what reading settings gives
pub one_site : ReadsOnce → (files : Files) (path : List ℕ) → IsOne (SettingsAt files path)
one_site laws files path = one_by laws (is_dash_path path) files path
