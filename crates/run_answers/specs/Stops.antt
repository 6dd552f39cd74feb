-- How a reading and a writing end.
use Rattle.std.specs.Prelude.{ℕ, List, [], ◌∷◌, Result, Ok, Err, codes}
use Rattle.run_answers.specs.Lines.{line}
use Rattle.run_answers.specs.Refusals.{in_root, status_of, line_of_refusal}
use Rattle.run_answers.specs.declared.refusal.Refusal.{Refusal}
use Rattle.run_answers.specs.declared.stop.ReadStop.{ReadStop}
use Rattle.run_answers.specs.declared.stop.ReadStop.TheVariants as reads
use Rattle.run_answers.specs.declared.stop.WriteStop.{WriteStop}
use Rattle.run_answers.specs.declared.stop.WriteStop.TheVariants as writes
use Rattle.run_answers.specs.declared.stop.Stop.{Stop}
use Rattle.run_answers.specs.declared.stop.Stop.TheVariants.{Usage, Read, Write}
use Rattle.run_answers.specs.declared.status.Status.{Status}
use Rattle.run_answers.specs.declared.status.Status.TheVariants as statuses

-- what a call returned is what reading gives; a device's fault or want of memory may come instead
abbrev pub Gives : {T : Type 0} → Result T ReadStop → (Result T Refusal → Type 0) → Type 0
Gives (Ok x) Reads = Reads (Ok x)
Gives (Err (reads.Refused refusal)) Reads = Reads (Err refusal)
Gives (Err (reads.Fault path)) Reads = Unit {0}
Gives (Err reads.NoMemory) Reads = Unit {0}

-- a stop over the files of the root with this number: what is refused says which root
abbrev pub stop_in_root : ℕ → ReadStop → ReadStop
stop_in_root root (reads.Refused refusal) = reads.Refused (in_root root refusal)
stop_in_root root (reads.Fault path) = reads.Fault path
stop_in_root root reads.NoMemory = reads.NoMemory

-- a reading that a device made fail
abbrev pub EndsInReadFault : {T : Type 0} → Result T ReadStop → Type 0
EndsInReadFault (Err (reads.Fault path)) = Unit {0}
EndsInReadFault other = ⊥

-- a reading that ended as what was read has it: no device failed, and memory sufficed
abbrev pub EndsByInput : {T : Type 0} → Result T ReadStop → Type 0
EndsByInput (Ok x) = Unit {0}
EndsByInput (Err (reads.Refused refusal)) = Unit {0}
EndsByInput other = ⊥

-- a writing that a put made fail, and one that the sink of the answer made fail
abbrev pub EndsInPutFault : {T : Type 0} → Result T WriteStop → Type 0
EndsInPutFault (Err (writes.Put path)) = Unit {0}
EndsInPutFault other = ⊥

abbrev pub EndsInOutputFault : {T : Type 0} → Result T WriteStop → Type 0
EndsInOutputFault (Err writes.Output) = Unit {0}
EndsInOutputFault other = ⊥

-- ---- what is answered and said

unfoldable pub usage_line : List ℕ
usage_line = line (codes "usage: spack_concretize COMMAND ARGUMENT..." ∷ [])

unfoldable pub read_fault_line : List ℕ → List ℕ
read_fault_line path = line (codes "read fault: " ∷ path ∷ [])

unfoldable pub write_fault_line : List ℕ → List ℕ
write_fault_line path = line (codes "write fault: " ∷ path ∷ [])

unfoldable pub output_fault_line : List ℕ
output_fault_line = line (codes "write fault: output" ∷ [])

unfoldable pub no_memory_line : List ℕ
no_memory_line = line (codes "no memory" ∷ [])

abbrev pub stop_status : Stop → Status
stop_status Usage = statuses.Usage
stop_status (Read (reads.Refused refusal)) = status_of refusal
stop_status (Read (reads.Fault path)) = statuses.ReadFault
stop_status (Read reads.NoMemory) = statuses.NoMemory
stop_status (Write (writes.Put path)) = statuses.WriteFault
stop_status (Write writes.Output) = statuses.WriteFault
stop_status (Write writes.NoMemory) = statuses.NoMemory

abbrev pub stop_line : Stop → List ℕ
stop_line Usage = usage_line
stop_line (Read (reads.Refused refusal)) = line_of_refusal refusal
stop_line (Read (reads.Fault path)) = read_fault_line path
stop_line (Read reads.NoMemory) = no_memory_line
stop_line (Write (writes.Put path)) = write_fault_line path
stop_line (Write writes.Output) = output_fault_line
stop_line (Write writes.NoMemory) = no_memory_line
