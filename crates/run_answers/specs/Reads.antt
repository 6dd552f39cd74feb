-- What a call that only reads leaves of a desk.
use Rattle.std.specs.Prelude.{◌≡◌, ℕ, Option, Result}
use Rattle.outside_desk.specs.Causes.{Counts}
use Rattle.outside_desk.specs.Files.{Files, StillTells}
use Rattle.run_answers.specs.Stops.{EndsByInput, EndsInReadFault}
use Rattle.run_answers.specs.declared.stop.ReadStop.{ReadStop}

-- the desk tells the same files, or none any more, and none is put; the count of faults rises where a device made the call fail, and is as
-- it was where the call ended by what was read. Of files, faults and puts it is what the desk tells before, and then after
pub record Unchanged (before after : Option Files) (faults_before faults : ℕ) (puts_before puts : ℕ) (fails ends : Type 0) : Type 0 where
  pub same : StillTells before after
  pub cause : Counts faults_before faults fails
  pub steady : ends → faults ≡ faults_before
  pub put_faults : puts ≡ puts_before

-- the same of a desk before and after a call that gave this result, by what the desk tells
abbrev pub OnlyReads : {D T : Type 0} → (D → Option Files) → (D → ℕ) → (D → ℕ) → D → D → Result T ReadStop → Type 0
OnlyReads files faults puts before after result =
    Unchanged (files before) (files after) (faults before) (faults after) (puts before) (puts after) (EndsInReadFault result)
    (EndsByInput result)
