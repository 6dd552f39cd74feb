-- What is read below a key, of what a call gave.
use Rattle.std.proofs.Common.{refl, ℕ, List, Result, Ok, Err}
use Rattle.json_readers.specs.Faults.{Reading, Gives, Raises, below}
use Rattle.json_readers.specs.declared.fault.JsonFault.{JsonFault}
use Rattle.json_readers.specs.declared.fault.JsonFault.TheVariants as fault

-- a call below gives what is read below
pub raised : {T : Type 0} (key : List ℕ) (read result : Result T JsonFault) (reading : Reading T) → Raises key read result
    → Gives read reading → Gives result (below key reading)
raised key (Ok x) result reading raises gives = rw raises (rw gives refl)
raised key (Err (fault.Misfit m)) result reading raises gives = rw gives raises
raised key (Err fault.OutOfMemory) result reading raises gives = rw raises tt
