-- Bytes are one lock file at most, or have one fault at most.
use Rattle.std.proofs.Common.{◌≡◌, ◌≢◌, refl, sym, ap, ◌∙◌, subst, ℕ, List, Option, Some, None, Result, Ok, Err, inl, inr}
use Rattle.std.specs.Prelude.{option_map}
use Rattle.serde_json.specs.Data.{Data}
use Rattle.json_readers.specs.Json.{IsJson}
use Rattle.json_readers.specs.declared.fault.Misfit.{Misfit}
use Rattle.json_readers.proofs.Once.{json_one, some_one, none_or_some}
use Rattle.variant_values.specs.Texts.{byte_cmp}
use Rattle.keyed_lists.specs.Keyed.{IsInOrder, find_key}
use Rattle.graph_core.specs.Graphs.{Text, Content, IsGraph, node_of, edge_of, provider_of}
use Rattle.reuse_db.specs.Canonical.{right_hash}
use Rattle.reuse_db.specs.declared.record.Record.{Record}
use Rattle.lockfile.specs.Faults.{twice_named, wrongly_hashed, dangling_in_file, IsSoundFile, IsFileFault, IsLockFaultOf, IsLockFault}
use Rattle.lockfile.specs.Files.{file_at}
use Rattle.lockfile.specs.Locks.{IsGraphOf, IsLockOf, IsLock}
use Rattle.lockfile.specs.declared.fault.LockFault.{LockFault}
use Rattle.lockfile.specs.declared.fault.LockFault.TheVariants.{NotJson, WrongKind, TwiceNamed, HashDiffers, Dangling, OutOfMemory}
use Rattle.lockfile.specs.declared.file.File.{File}
use Rattle.lockfile.specs.declared.lock.Lock.{Lock}

-- ---- the lock

-- graphs that answer alike are one, and so are lists in order
pub record AnswersOnce : Type 0 where
  pub graphs : (a b : Content) → IsGraph a → IsGraph b → ((name : Text) → node_of a name ≡ node_of b name)
      → ((parent child : Text) → edge_of a parent child ≡ edge_of b parent child)
      → ((name : Text) → provider_of a name ≡ provider_of b name) → a ≡ b
  pub hashes : (xs ys : List (Text × Text)) → IsInOrder byte_cmp (λ h. h.0) xs → IsInOrder byte_cmp (λ h. h.0) ys
      → ((k : Text) → find_key byte_cmp (λ h. h.0) xs k ≡ find_key byte_cmp (λ h. h.0) ys k) → xs ≡ ys

graph_one : AnswersOnce → (file : File) (a b : Content) → IsGraphOf file a → IsGraphOf file b → a ≡ b
graph_one laws file a b p q =
    laws.graphs a b p.whole q.whole (λ name. p.nodes name ∙ sym (q.nodes name)) (λ parent child. p.edges (parent, child)
    ∙ sym (q.edges (parent, child)))
    (λ name. ap (option_map (λ (provider : Text × Text). provider.1)) (p.providers name ∙ sym (q.providers name)))

same_lock : (a b : Lock) → a.graph ≡ b.graph → a.roots ≡ b.roots → a.hashes ≡ b.hashes → a.version ≡ b.version → a ≡ b
same_lock a b graph roots hashes version =
    λ i. record { graph = graph i; roots = roots i; hashes = hashes i; version = version i }

lock_of_one : AnswersOnce → (file : File) (a b : Lock) → IsLockOf file a → IsLockOf file b → a ≡ b
lock_of_one laws file a b p q =
    same_lock a b (graph_one laws file a.graph b.graph p.graph q.graph) (p.roots ∙ sym q.roots)
    (laws.hashes a.hashes b.hashes p.hashes.order q.hashes.order (λ name. p.hashes.found name ∙ sym (q.hashes.found name)))
    (p.version ∙ sym q.version)

file_same : (d e : Data) (f g : File) → d ≡ e → file_at d ≡ Ok f → file_at e ≡ Ok g → f ≡ g
file_same d e f g same p q =
    let is : (let T : Type 0 = Result File Misfit in let l : T = Ok f in let r : T = Ok g in l ≡ r) = sym p ∙ ap file_at same ∙ q in cc

lock_here : AnswersOnce → (f g : File) (a b : Lock) → f ≡ g → IsLockOf f a → IsLockOf g b → a ≡ b
lock_here laws f g a b same p q = lock_of_one laws g a b (subst (λ (file : File). IsLockOf file a) same p) q

-- bytes are one lock file at most
pub lock_one : AnswersOnce → (bytes : List ℕ) (a b : Lock) → IsLock bytes a → IsLock bytes b → a ≡ b
lock_one laws bytes a b (d, json, (f, is, lock)) (e, other, (g, too, as_well)) =
    lock_here laws f g a b (file_same d e f g (json_one bytes d e json other) is too) lock as_well

-- ---- the fault

-- the first kind of fault that a file has
abbrev hash_fault : File → Option Record → Option LockFault → Option LockFault
hash_fault file None later = later
hash_fault file (Some entry) later = Some (HashDiffers entry.hash (right_hash entry))

abbrev child_fault : Option (Text × Text) → Option LockFault
child_fault None = None
child_fault (Some ends) = Some (Dangling ends.0 ends.1)

abbrev name_fault : Option Text → Option LockFault → Option LockFault
name_fault None later = later
name_fault (Some name) later = Some (TwiceNamed name)

abbrev fault_in : File → Option LockFault
fault_in file = name_fault (twice_named file.nodes) (hash_fault file (wrongly_hashed file.nodes) (child_fault (dangling_in_file file)))

is_fault_in : (file : File) (f : LockFault) → IsFileFault file f → f ≢ OutOfMemory → fault_in file ≡ Some f
is_fault_in file NotJson is other = absurd is
is_fault_in file (WrongKind at) is other = absurd is
is_fault_in file (TwiceNamed name) is other = rw is refl
is_fault_in file (HashDiffers written computed) (apart, (entry, differs, w, c)) other = rw (apart, differs, w, c) refl
is_fault_in file (Dangling parent child) (apart, right, lost) other = rw (apart, right, lost) refl
is_fault_in file OutOfMemory is other = absurd (other refl)

no_fault_in : (file : File) → IsSoundFile file → fault_in file ≡ None
no_fault_in file sound = rw (sound.named, sound.hashed, sound.known) refl

abbrev by_value : Result File Misfit → Option LockFault
by_value (Ok file) = fault_in file
by_value (Err misfit) = Some (WrongKind misfit.at)

is_by_value : (d : Data) (f : LockFault) → IsLockFaultOf d f → f ≢ OutOfMemory → by_value (file_at d) ≡ Some f
is_by_value d f (inl is) other = absurd (other is)
is_by_value d f (inr (inl (misfit, is, fault))) other = rw (is, fault) refl
is_by_value d f (inr (inr (file, is, fault))) other = rw is (is_fault_in file f fault other)

value_one : (d e : Data) (f g : LockFault) → d ≡ e → IsLockFaultOf d f → IsLockFaultOf e g → f ≢ OutOfMemory → g ≢ OutOfMemory → f ≡ g
value_one d e f g same p q other not = some_one (by_value (file_at e)) f g (ap (λ v. by_value (file_at v)) (sym same)
    ∙ is_by_value d f p other) (is_by_value e g q not)

-- bytes have one fault at most besides want of memory
pub fault_one : (bytes : List ℕ) (f g : LockFault) → IsLockFault bytes f → IsLockFault bytes g → f ≢ OutOfMemory → g ≢ OutOfMemory → f ≡ g
fault_one bytes f g (inl is) q other not = absurd (other is)
fault_one bytes f g (inr p) (inl is) other not = absurd (not is)
fault_one bytes f g (inr (inl p)) (inr (inl q)) other not = p.0 ∙ sym q.0
fault_one bytes f g (inr (inl p)) (inr (inr (e, json, q))) other not = absurd (p.1 e json)
fault_one bytes f g (inr (inr (d, json, p))) (inr (inl q)) other not = absurd (q.1 d json)
fault_one bytes f g (inr (inr (d, json, p))) (inr (inr (e, too, q))) other not =
    value_one d e f g (json_one bytes d e json too) p q other not

-- ---- not both

lock_or_fault : (bytes : List ℕ) (d : Data) (file : File) (f : LockFault) → IsJson bytes d → file_at d ≡ Ok file → IsSoundFile file
    → f ≢ OutOfMemory → IsLockFault bytes f → ⊥
lock_or_fault bytes d file f json is sound other (inl h) = other h
lock_or_fault bytes d file f json is sound other (inr (inl q)) = q.1 d json
lock_or_fault bytes d file f json is sound other (inr (inr (e, too, q))) =
    none_or_some (by_value (file_at d)) f (rw is (no_fault_in file sound)) (ap (λ v. by_value (file_at v)) (json_one bytes d e json too)
    ∙ is_by_value e f q other)

other_than : (f : LockFault) → (f ≢ OutOfMemory → ⊥) → f ≡ OutOfMemory
other_than NotJson h = absurd (h (λ e. absurd cc))
other_than (WrongKind at) h = absurd (h (λ e. absurd cc))
other_than (TwiceNamed name) h = absurd (h (λ e. absurd cc))
other_than (HashDiffers written computed) h = absurd (h (λ e. absurd cc))
other_than (Dangling parent child) h = absurd (h (λ e. absurd cc))
other_than OutOfMemory h = refl

-- a lock file is refused for want of memory alone
pub lock_right : (bytes : List ℕ) (lock : Lock) (f : LockFault) → IsLock bytes lock → IsLockFault bytes f → f ≡ OutOfMemory
lock_right bytes lock f (d, json, (file, is, of)) fault = other_than f (λ other. lock_or_fault bytes d file f json is of.sound other fault)
