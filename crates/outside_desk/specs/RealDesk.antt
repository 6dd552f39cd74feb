-- What a desk of the machine shows: the files that it is supposed to hold, what is given of the puts to come that fail, and its counts.
use Rattle.std.specs.Prelude.{ℕ, Bool, List, Option}
use Rattle.outside_desk.specs.Files.{Files}
use Rattle.outside_desk.specs.declared.real_desk.RealDesk.{RealDesk}

abbrev pub real_files : {R F : Type 0} → RealDesk R F → Option Files
real_files desk = desk.supposed.files

abbrev pub real_late : {R F : Type 0} → RealDesk R F → List Bool
real_late desk = desk.supposed.late

abbrev pub real_faults : {R F : Type 0} → RealDesk R F → ℕ
real_faults desk = desk.faults

abbrev pub real_put_faults : {R F : Type 0} → RealDesk R F → ℕ
real_put_faults desk = desk.put_faults
