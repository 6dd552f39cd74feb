-- The bytes of the file at a path, or the refusal that is due first.
use Rattle.std.specs.Prelude.{◌≡◌, ℕ, ◌-◌, ◌^◌, nat_le, List, length, Result, Ok, Err, Vec}
use Rattle.std.specs.FinMap.{get}
use Rattle.std.specs.declared.alloc.Global.{Global}
use Rattle.outside_desk.specs.Files.{Files}
use Rattle.run_answers.specs.Stages.{◌>>=◌, or_refuse, check}
use Rattle.run_answers.specs.declared.refusal.Refusal.{Refusal}
use Rattle.run_answers.specs.declared.refusal.Refusal.TheVariants as refusals
use Rattle.run_answers.specs.declared.stop.ReadStop.{ReadStop}
use Rattle.run_answers.specs.declared.stop.ReadStop.TheVariants as reads
use Rattle.run_input.specs.declared.file.WholeFile.{WholeFile}
use Rattle.run_input.specs.declared.file.WholeFile.TheVariants as kinds

-- a file of settings has at most 16 MiB, a database at most 64 MiB, a lock file fewer than 2^63 bytes
abbrev pub limit_of : WholeFile → ℕ
limit_of kinds.Settings = 2 ^ 24
limit_of kinds.Database = 2 ^ 26
limit_of kinds.Lock = 2 ^ 63 - 1

-- what one that has more is refused with
abbrev pub too_large : WholeFile → Refusal
too_large kinds.Settings = refusals.SettingsTooLarge
too_large kinds.Database = refusals.DatabaseTooLarge
too_large kinds.Lock = refusals.LockTooLarge

-- what the path names among the files: the bytes, unless there is no such file, or it has too many
unfoldable pub bytes_at : Files → List ℕ → WholeFile → Result (List ℕ) Refusal
bytes_at files path file = do
  bytes ← or_refuse (refusals.MissingInput path) (get files path)
  short ← check (too_large file) (nat_le (length bytes) (limit_of file))
  Ok bytes

-- what a call that reads bytes answers; a device's fault or want of memory may come instead
abbrev pub GivesBytes : Result (List ℕ) Refusal → Result (Vec ℕ Global) ReadStop → Type 0
GivesBytes given (Ok v) = given ≡ Ok v.items
GivesBytes given (Err (reads.Refused refusal)) = given ≡ Err refusal
GivesBytes given (Err (reads.Fault path)) = Unit {0}
GivesBytes given (Err reads.NoMemory) = Unit {0}

-- a device fails only while the file at this path is read
abbrev pub FailsAt : {A : Type 0} → List ℕ → Result A ReadStop → Type 0
FailsAt path (Err (reads.Fault at)) = at ≡ path
FailsAt path other = Unit {0}
