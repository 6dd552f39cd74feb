-- Of a lock file one thing is said at most.
use Rattle.std.proofs.Common.{◌≡◌, ◌≢◌, ℕ, List, ap, sym, ◌∙◌, Ok, Err}
use Rattle.outside_desk.specs.Files.{Files}
use Rattle.lockfile.specs.Locks.{IsLock}
use Rattle.lockfile.specs.Faults.{IsLockFault}
use Rattle.lockfile.specs.declared.fault.LockFault.{LockFault}
use Rattle.lockfile.specs.declared.fault.LockFault.TheVariants.{OutOfMemory}
use Rattle.lockfile.specs.declared.lock.Lock.{Lock}
use Rattle.problem.specs.Problems.{Problem}
use Rattle.run_input.specs.Stages.{Is, Then}
use Rattle.run_input.specs.Refusal.TheVariants.{BadLock}
use Rattle.run_input.proofs.StageLaws.{IsOne, one_is, one_then}
use Rattle.run_task.specs.Locks.{lock_bytes, LockIn, LockAt, NamedAt, named_lock}
use Rattle.run_task.specs.Verdicts.{judged, GraphAt, Judges}

-- what holds of reading lock files
pub record ReadsOnce : Type 0 where
  pub reading : (bytes : List ℕ) (a b : Lock) → IsLock bytes a → IsLock bytes b → a ≡ b
  pub fault : (bytes : List ℕ) (f g : LockFault) → IsLockFault bytes f → IsLockFault bytes g → f ≢ OutOfMemory → g ≢ OutOfMemory → f ≡ g
  pub right : (bytes : List ℕ) (lock : Lock) (f : LockFault) → IsLock bytes lock → IsLockFault bytes f → f ≡ OutOfMemory

one_in : ReadsOnce → (bytes : List ℕ) → IsOne (LockIn bytes)
one_in laws bytes (Ok a) (Ok b) p q = ap Ok (laws.reading bytes a b p q)
one_in laws bytes (Ok a) (Err b) p (f, is, other, same) = absurd (other (laws.right bytes a f p is))
one_in laws bytes (Err a) (Ok b) (f, is, other, same) q = absurd (other (laws.right bytes b f q is))
one_in laws bytes (Err a) (Err b) (f, is, other, same) (g, as_well, not, too) =
    ap Err (same ∙ ap BadLock (laws.fault bytes f g is as_well other not) ∙ sym too)

one_lock : ReadsOnce → (files : Files) (path : List ℕ) → IsOne (LockAt files path)
one_lock laws files path = one_then (Is (lock_bytes files path)) LockIn (one_is (lock_bytes files path)) (one_in laws)

one_named : ReadsOnce → (files : Files) (path : List ℕ) (problem : Problem) → IsOne (NamedAt files path problem)
one_named laws files path problem =
    one_then (LockAt files path) (λ lock. Is (Ok (named_lock problem lock))) (one_lock laws files path)
    (λ lock. one_is (Ok (named_lock problem lock)))

-- of a lock file one thing is said at most
pub one_verdict : ReadsOnce → (files : Files) (path : List ℕ) (problem : Problem) → IsOne (Judges files path problem)
one_verdict laws files path problem =
    one_then (NamedAt files path problem) (λ lock. Is (judged problem lock)) (one_named laws files path problem)
    (λ lock. one_is (judged problem lock))

-- and of its graph
pub one_graph : ReadsOnce → (files : Files) (path : List ℕ) (problem : Problem) → IsOne (GraphAt files path problem)
one_graph laws files path problem =
    one_then (NamedAt files path problem) (λ lock. Then (Is (judged problem lock)) (λ numbers. Is (Ok lock.graph)))
    (one_named laws files path problem)
    (λ lock. one_then (Is (judged problem lock)) (λ numbers. Is (Ok lock.graph)) (one_is (judged problem lock))
    (λ numbers. one_is (Ok lock.graph)))
