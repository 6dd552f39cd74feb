-- What an error of the machine is to a desk, and what a writing that broke off leaves.
use Rattle.std.specs.Prelude.{ℕ, List, Option, take}
use Rattle.std.specs.Io.KnownBytes.{Appends}
use Rattle.std.specs.declared.io.ErrorKind.{ErrorKind}
use Rattle.std.specs.declared.io.ErrorKind.TheVariants as kinds
use Rattle.outside_desk.specs.declared.fault.DeskFault.{DeskFault}
use Rattle.outside_desk.specs.declared.fault.DeskFault.TheVariants as desk_faults

-- a file in a folder's place counts as missing too, and a name that is too long for the machine
abbrev pub fault_of_kind : ErrorKind → DeskFault
fault_of_kind kinds.NotFound = desk_faults.Missing
fault_of_kind kinds.NotADirectory = desk_faults.Missing
fault_of_kind kinds.InvalidFilename = desk_faults.Missing
fault_of_kind kinds.OutOfMemory = desk_faults.OutOfMemory
fault_of_kind _ = desk_faults.Failed

-- an error of a put that comes before anything is written: want of memory is told as such
abbrev pub put_fault_of_kind : ErrorKind → DeskFault
put_fault_of_kind kinds.OutOfMemory = desk_faults.OutOfMemory
put_fault_of_kind _ = desk_faults.Failed

-- a front of the bytes was appended, where the writer tells what it holds
abbrev pub AppendsPart : Option (List ℕ) → Option (List ℕ) → List ℕ → Type 0
AppendsPart old new bytes = (n : ℕ) × Appends old new (take n bytes)
