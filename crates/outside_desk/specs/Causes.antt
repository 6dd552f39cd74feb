-- Counts of faults, and what a fault of a reading makes of the whole.
use Rattle.std.specs.Prelude.{◌≡◌, ℕ, ◌+◌, ◌-◌, ◌^◌, ◌≤◌, min}
use Rattle.outside_desk.specs.declared.fault.DeskFault.{DeskFault}
use Rattle.outside_desk.specs.declared.fault.DeskFault.TheVariants as desk_faults
use Rattle.outside_desk.specs.declared.fault.ReadFault.{ReadFault}
use Rattle.outside_desk.specs.declared.fault.ReadFault.TheVariants as read_faults

-- one more, where a count of 64 bits has room for it
abbrev pub one_more : ℕ → ℕ
one_more n = min (n + 1) (2 ^ 64 - 1)

-- A count rose. One that stands at the end of its type counts as risen.
abbrev pub Rose : ℕ → ℕ → Type 0
Rose before now = one_more before ≤ now

-- a count doesn't fall, and it rose where the call failed
pub record Counts (before now : ℕ) (failed : Type 0) : Type 0 where
  pub later : before ≤ now
  pub cause : failed → Rose before now

-- a count is one more exactly where the call failed, and else as it was
pub record CountsEach (before now : ℕ) (failed : Type 0) : Type 0 where
  pub counts : Counts before now failed
  pub risen : failed → now ≡ one_more before
  pub kept : ¬ failed → now ≡ before

-- a whole reading's fault for that of one reading
abbrev pub read_fault_of : DeskFault → ReadFault
read_fault_of desk_faults.Missing = read_faults.Missing
read_fault_of desk_faults.Failed = read_faults.Failed
read_fault_of desk_faults.OutOfMemory = read_faults.OutOfMemory
