-- Faults of devices at a file that a command names.
use Rattle.std.specs.Prelude.{◌≡◌, ℕ, List, false, Result, Err}
use Rattle.run_answers.specs.declared.stop.ReadStop.{ReadStop}
use Rattle.run_answers.specs.declared.stop.ReadStop.TheVariants as reads
use Rattle.run_words.specs.Words.{is_dash_path}

-- the path is that of the file, and the file is read
abbrev pub IsFilePath : List ℕ → List ℕ → Type 0
IsFilePath file path = (path ≡ file) × (is_dash_path file ≡ false)

-- a device fails only while the file is read
abbrev pub FailsThere : {A : Type 0} → List ℕ → Result A ReadStop → Type 0
FailsThere file (Err (reads.Fault path)) = IsFilePath file path
FailsThere file other = Unit {0}
