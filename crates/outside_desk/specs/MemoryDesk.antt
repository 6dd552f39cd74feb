-- What a desk in memory shows, and what each of its calls does to that.
use Rattle.std.specs.Prelude.{◌≡◌, ◌⊎◌, ℕ, List, Result, Ok, Err, Contains}
use Rattle.std.specs.FinMap.{insert}
use Rattle.outside_desk.specs.Causes.{one_more}
use Rattle.outside_desk.specs.Files.{Files}
use Rattle.outside_desk.specs.declared.fault.DeskFault.{DeskFault}
use Rattle.outside_desk.specs.declared.fault.DeskFault.TheVariants as desk_faults
use Rattle.outside_desk.specs.declared.memory_desk.MemoryDesk.{MemoryDesk}

-- its files, the number of the next call, the numbers of the calls that are to fail and of the puts that are to fail late, and its counts
pub record DeskState : Type 0 where
  pub files : Files
  pub next_call : ℕ
  pub failing : List ℕ
  pub late : List ℕ
  pub faults : ℕ
  pub put_faults : ℕ

abbrev pub desk_state : MemoryDesk → DeskState
desk_state desk = record {
  files = desk.map;
  next_call = desk.calls.next;
  failing = desk.calls.failing.items;
  late = desk.late.items;
  faults =
      desk.faults;
  put_faults = desk.put_faults;
}

-- the next call is to fail
abbrev pub IsToFail : DeskState → Type 0
IsToFail state = Contains state.failing state.next_call

-- the next call, where it is a put, is to fail once the file holds the bytes
abbrev pub IsToFailLate : DeskState → Type 0
IsToFailLate state = Contains state.late state.next_call

-- after one call more
abbrev pub counted : DeskState → DeskState
counted state = record state { next_call = one_more state.next_call }

-- a reading or a listing failed
abbrev pub after_fault : DeskState → DeskState
after_fault state = record (counted state) { faults = one_more state.faults }

-- a put left the bytes
abbrev pub after_put : DeskState → List ℕ → List ℕ → DeskState
after_put state path bytes = record (counted state) { files = insert state.files path bytes }

-- a put failed before the file changed
abbrev pub after_put_fault : DeskState → DeskState
after_put_fault state = record (counted state) { put_faults = one_more state.put_faults }

-- a put failed once the file held the bytes
abbrev pub after_late_fault : DeskState → List ℕ → List ℕ → DeskState
after_late_fault state path bytes = record (after_put state path bytes) { put_faults = one_more state.put_faults }

-- a reading or a listing fails exactly where it is to fail, and changes the counts alone
abbrev pub Looks : {A : Type 0} → DeskState → DeskState → Result A DeskFault → Type 0
Looks old new (Ok _) = (¬ IsToFail old) × (new ≡ counted old)
Looks old new (Err desk_faults.Missing) = (¬ IsToFail old) × (new ≡ counted old)
Looks old new (Err desk_faults.OutOfMemory) = (¬ IsToFail old) × (new ≡ counted old)
Looks old new (Err desk_faults.Failed) = IsToFail old × (new ≡ after_fault old)

-- a put fails exactly where it is to fail, or late, unless want of memory comes before that
abbrev pub Puts : DeskState → DeskState → List ℕ → List ℕ → Result Unit DeskFault → Type 0
Puts old new path bytes (Ok _) = (¬ IsToFail old) × (¬ IsToFailLate old) × (new ≡ after_put old path bytes)
Puts old new path bytes (Err desk_faults.Missing) = ⊥
Puts old new path bytes (Err desk_faults.OutOfMemory) = (¬ IsToFail old) × (new ≡ counted old)
Puts old new path bytes (Err desk_faults.Failed) =
    (IsToFail old × (new ≡ after_put_fault old))
    ⊎ ((¬ IsToFail old) × IsToFailLate old × (new ≡ after_late_fault old path bytes))
