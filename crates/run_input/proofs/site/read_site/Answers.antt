use Rattle.std.proofs.Common.{◌≡◌, subst, sym, ◌∙◌, ℕ, List, false, Option, Some, None, Ok}
use Rattle.std.specs.Prelude.{IfSome}
use Rattle.outside_desk.specs.Files.{Files}
use Rattle.site_settings.specs.declared.settings.Settings.{Settings}
use Rattle.run_words.specs.Words.{is_dash_path}
use Rattle.run_input.specs.Sites.{SettingsAt, SettingsIn, settings_bytes}
use Rattle.run_input.proofs.site.read_site.Goals as goal

-- the settings of the bytes at a path
at_path : (before : Option Files) (path bytes given : List ℕ) (settings read : Settings) → is_dash_path path ≡ false
    → IfSome before (λ files. settings_bytes files path ≡ Ok bytes) → given ≡ bytes → SettingsIn given (Ok settings) → read ≡ settings
    → IfSome before (λ files. SettingsAt files path (Ok read))
at_path None path bytes given settings read named there same says is = tt
at_path (Some files) path bytes given settings read named there same says is =
    rw named (
      bytes,
      sym there,
      subst (λ (s : Settings). SettingsIn bytes (Ok s)) (sym is)
          (subst (λ (b : List ℕ). SettingsIn b (Ok settings)) same says),
    )

pub returns-clause-read : goal.returns-clause-read
returns-clause-read g c =
    at_path _ c.args.path.now c.in_ok-bytes.bytes.items c.as_slice.result.now c.in_ok-settings.settings c.new-2.result
    (sym c.is_dash.ensures ∙ c.if-is_dash.false)
    c.in_ok-bytes.ensures.read c.as_slice.ensures.value c.in_ok-settings.ensures.read c.new-2.ensures
