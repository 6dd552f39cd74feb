-- The lock file at a path, or the refusal that is due first.
use Rattle.std.specs.Prelude.{◌≡◌, ◌≢◌, ◌==◌, ℕ, List, Result, Ok, Err, if◌then◌else◌}
use Rattle.outside_desk.specs.Files.{Files}
use Rattle.lockfile.specs.Locks.{IsLock}
use Rattle.lockfile.specs.Faults.{IsLockFault}
use Rattle.lockfile.specs.declared.fault.LockFault.{LockFault}
use Rattle.lockfile.specs.declared.fault.LockFault.TheVariants.{OutOfMemory}
use Rattle.lockfile.specs.declared.lock.Lock.{Lock}
use Rattle.problem.specs.Problems.{Problem}
use Rattle.graph_rules.specs.Named.{named_graph}
use Rattle.run_input.specs.Bytes.{bytes_at}
use Rattle.run_input.specs.declared.file.WholeFile.TheVariants as kinds
use Rattle.run_input.specs.Stages.{Is, Then}
use Rattle.run_input.specs.Refusal.{Refusal}
use Rattle.run_input.specs.Refusal.TheVariants as refusals

-- the bytes of the file at the path
abbrev pub lock_bytes : Files → List ℕ → Result (List ℕ) Refusal
lock_bytes files path = bytes_at files path kinds.Lock

-- the lock file that bytes are, or their fault
abbrev pub LockIn : List ℕ → Result Lock Refusal → Type 0
LockIn bytes (Ok lock) = IsLock bytes lock
LockIn bytes (Err refusal) = (f : LockFault) × IsLockFault bytes f × (f ≢ OutOfMemory) × (refusal ≡ refusals.BadLock f)

-- the lock file at the path
abbrev pub LockAt : Files → List ℕ → Result Lock Refusal → Type 0
LockAt files path = Then (Is (lock_bytes files path)) LockIn

-- the lock file, where each edge names its virtuals: in the format's first version none does, and
-- they are found
unfoldable pub named_lock : Problem → Lock → Lock
named_lock problem lock = if lock.version == 1 then record lock { graph = named_graph problem lock.graph } else lock

-- the lock file at the path, so
abbrev pub NamedAt : Files → List ℕ → Problem → Result Lock Refusal → Type 0
NamedAt files path problem = Then (LockAt files path) (λ lock. Is (Ok (named_lock problem lock)))
