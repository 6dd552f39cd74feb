use Rattle.std.proofs.Common.{◌≡◌, subst, ℕ, List, Result, Ok, Err, IfOk}
use Rattle.lockfile.specs.Locks.{IsLock}
use Rattle.lockfile.specs.declared.lock.Lock.{Lock}
use Rattle.lockfile.specs.Writable.{lock_of}
use Rattle.lockfile.proofs.again.write_and_read.Goals as goal

-- what was read is this lock, where the text is its
read_same : {E : Type 0} (r : Result Lock E) (bytes text : List ℕ) (lock : Lock) → bytes ≡ text → IfOk r (IsLock bytes)
    → ((a b : Lock) → IsLock text a → IsLock text b → a ≡ b) → IsLock text lock → IfOk r (λ read. read ≡ lock)
read_same (Ok read) bytes text lock is found one there = one read lock (subst (λ b. IsLock b read) is found) there
read_same (Err e) bytes text lock is found one there = tt

pub returns-clause-same : goal.returns-clause-same
returns-clause-same c =
    let g = c.args.graph.now in
    let text = c.in_ok-text.text.items in
    let own = c.again_laws.ensures g c.args.database.now c.args.roots.now c.nodes-nodes.ensures.graph c.records-records.ensures.right
    c.requires.written c.requires.writable text c.in_ok-text.ensures.read in
    read_same c.read_lock.result c.as_slice.result.now text (lock_of g c.args.roots.now) c.as_slice.ensures.value c.read_lock.ensures.found
    (c.lock_laws.ensures.one_reading text) own
