-- What a fault does not hide.
use Rattle.std.proofs.Common.{◌≡◌, subst, ℕ, List, Some, Ok, Err, inl, inr}
use Rattle.outside_desk.specs.Files.{Files}
use Rattle.run_input.specs.Inputs.{IsInputPath, ReadsInput}
use Rattle.run_input.specs.Sites.{SettingsAt}
use Rattle.run_input.proofs.StageLaws.{IsOne}
use Rattle.run_output.specs.Looks.{IsTaskPath}
use Rattle.run_output.specs.Refusal.{Refusal}
use Rattle.run_output.specs.Words.{Command, command_of}
use Rattle.concretizer.specs.Asked.{IsRead}
use Rattle.headline_laws.proofs.Posed.{same_command}

module _ (files : Files) (words : List (List ℕ)) (command : Command) (is : command_of words ≡ Some command) where
  -- the path is one of the command
  inside_of : (path : List ℕ) → IsRead (Some files) words path → IsTaskPath (Some files) command path
  inside_of path read =
      subst (λ (c : Command). IsTaskPath (Some files) c path) (same_command files words command is read.command read.named) read.inside

  by_settings : IsOne (SettingsAt files command.settings) → (refusal : Refusal) → SettingsAt files command.settings (Err refusal)
      → (path : List ℕ) → IsTaskPath (Some files) command path → path ≡ command.settings
  by_settings one refusal refused path (inl (inl file)) = file.0
  by_settings one refusal refused path (inl (inr behind)) =
      absurd (let same = one (Ok behind.0.0) (Err refusal) behind.0.1 refused in cc)
  by_settings one refusal refused path (inr look) =
      let stock = look.read.1 in absurd (let same = one (Ok stock.0) (Err refusal) stock.1 refused in cc)

  -- what reading of the settings refuses
  pub settings_first : IsOne (SettingsAt files command.settings) → (refusal : Refusal) → SettingsAt files command.settings (Err refusal)
      → (path : List ℕ) → IsRead (Some files) words path → path ≡ command.settings
  settings_first one refusal refused path read = by_settings one refusal refused path (inside_of path read)

  by_input : IsOne (ReadsInput files command) → (refusal : Refusal) → ReadsInput files command (Err refusal) → (path : List ℕ)
      → IsTaskPath (Some files) command path → IsInputPath (Some files) command path
  by_input one refusal refused path (inl input) = input
  by_input one refusal refused path (inr look) =
      absurd (let same = one (Ok look.input) (Err refusal) look.read refused in cc)

  -- what reading of the input refuses
  pub input_first : IsOne (ReadsInput files command) → (refusal : Refusal) → ReadsInput files command (Err refusal) → (path : List ℕ)
      → IsRead (Some files) words path → IsInputPath (Some files) command path
  input_first one refusal refused path read = by_input one refusal refused path (inside_of path read)
