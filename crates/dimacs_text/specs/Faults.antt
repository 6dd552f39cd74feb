-- What a fault of a device leaves, and want of memory.
--
-- `told` are the files at entry, where the desk tells them, `words` those of the command that reads
-- the same, `out` and `err` what the two sinks tell before and after, and the counts of faults
-- those of the device that is named.
use Rattle.std.specs.Prelude.{◌⊎◌, ℕ, List, Option, Some, Err, Ok, IfSome}
use Rattle.run_answers.specs.Exits.{IsSilent, Says, SaysFront, Spoken}
use Rattle.outside_desk.specs.Causes.{Rose}
use Rattle.outside_desk.specs.Files.{Files}
use Rattle.run_input.specs.Stop.{Stop}
use Rattle.run_input.specs.Stops.{no_memory_line, output_fault_line, read_fault_line}
use Rattle.dimacs_text.specs.Answers.{PosesBy}
use Rattle.dimacs_text.specs.Attempts.{Attempts, IsRead, line_of}

-- ReadFault: the desk failed to read the settings, the folder of packages, a recipe that it names
-- or the database, and that was said
pub record IsReadFault (told : Option Files) (words : List (List ℕ)) (faults : ℕ × ℕ) (out err : Spoken) : Type 0 where
  pub path : List ℕ
  pub read : IsRead told words path
  pub rose : Rose faults.0 faults.1
  pub output : IsSilent out
  pub errors : Says err (read_fault_line path)

-- the words ask for a text, and a front of it was said
pub record IsFront (files : Files) (words : List (List ℕ)) (out : Spoken) : Type 0 where
  pub text : List ℕ
  pub poses : PosesBy files words (Some (Ok text))
  pub said : SaysFront out text

-- WriteFault where the sink of the answer failed, and that was said
pub record IsOutputFault (told : Option Files) (words : List (List ℕ)) (faults : ℕ × ℕ) (out err : Spoken) : Type 0 where
  pub left : IfSome told (λ files. IsFront files words out)
  pub rose : Rose faults.0 faults.1
  pub errors : Says err output_fault_line

-- a run stopped for this cause, which leaves the sink of the answer so; `faults` counts those of
-- that sink
pub record IsStopped (told : Option Files) (words : List (List ℕ)) (faults : ℕ × ℕ) (out : Spoken) : Type 0 where
  pub stop : Stop
  pub left : IfSome told (λ files. Attempts files words out.0 out.1 (Err stop))
  pub output : IsSilent out ⊎ Rose faults.0 faults.1

-- WriteFault where the sink of the report failed: a front of the line of why the run stopped was
-- said
pub record IsReportFault (told : Option Files) (words : List (List ℕ)) (says errs : ℕ × ℕ) (out err : Spoken) : Type 0 where
  pub stopped : IsStopped told words says out
  pub rose : Rose errs.0 errs.1
  pub errors : SaysFront err (line_of stopped.stop)

-- WriteFault: one of the two sinks failed
abbrev pub IsWriteFault : Option Files → List (List ℕ) → ℕ × ℕ → ℕ × ℕ → Spoken → Spoken → Type 0
IsWriteFault told words says errs out err = IsOutputFault told words says out err ⊎ IsReportFault told words says errs out err

-- NoMemory, which needs no cause: that was said, or nothing
pub record IsOutOfMemory (told : Option Files) (words : List (List ℕ)) (faults : ℕ × ℕ) (out err : Spoken) : Type 0 where
  pub stopped : IsStopped told words faults out
  pub errors : IsSilent err ⊎ Says err no_memory_line
