-- The checks of the roots by themselves, one after the other.
use Rattle.std.proofs.Common.{◌≡◌, refl, sym, ap, subst, ◌∙◌, inl, inr, ℕ, ◌+◌, ◌<◌, arith, List, [], ◌∷◌, ◌++◌, length, take, drop, get_or, Option, Some, None, IfSome, Result, Ok, Err}
use Rattle.std.specs.Prelude.{slice_get}
use Rattle.std.proofs.lemmas.List.{drop_more, take_more, length-take-le, take_all}
use Rattle.std.proofs.lemmas.Option.{get_or_from_slice_get, slice_get_within}
use Rattle.std.proofs.Math.Seq.{drop-length}
use Rattle.outside_desk.specs.Files.{Files}
use Rattle.run_input.specs.Reads.{OnlyReads}
use Rattle.run_input.specs.Refusal.{Refusal}
use Rattle.run_input.specs.ReadStop.{ReadStop}
use Rattle.run_input.specs.ReadStop.TheVariants.{Refused, Fault, NoMemory}
use Rattle.run_input.specs.Stages.{InRoot, Then}
use Rattle.run_input.specs.Stops.{Gives, stop_in_root}
use Rattle.run_task.specs.Certificates.{log_verdict}
use Rattle.run_task.specs.Looks.{FailsAtCheck, FailsAtRoots}
use Rattle.run_task.specs.Places.{cert_at, lock_at}
use Rattle.run_task.specs.Problems.{Problem}
use Rattle.run_task.specs.Shown.{AreBestLocks, IsBestLock}
use Rattle.run_task.specs.Tasks.{CheckOf, ChecksOf}
use Rattle.run_task.specs.declared.task.Task.{Task}
use Rattle.run_task.specs.declared.task.Task.TheVariants as tasks

-- what the check of one root's files may give
abbrev pub CheckAt : Files → List ℕ → ℕ → Problem → Result Task Refusal → Type 0
CheckAt files dir root problem = InRoot root (CheckOf log_verdict files (lock_at dir root) (cert_at dir root) problem)

-- ---- the files of one root

stop_gives : (root : ℕ) (stop : ReadStop) (stage : Result Task Refusal → Type 0) → Gives {T = Task} (Err stop) stage
    → Gives {T = Task} (Err (stop_in_root root stop)) (InRoot root stage)
stop_gives root (Refused refusal) stage is = (refusal, is, refl)
stop_gives root (Fault path) stage is = tt
stop_gives root NoMemory stage is = tt

module _ (dir lock cert : List ℕ) (root : ℕ) (at_lock : lock ≡ lock_at dir root) (at_cert : cert ≡ cert_at dir root) where
  -- they are right
  pub check_read : (before : Option Files) (problem : Problem) (task : Task)
      → IfSome before (λ files. Gives (Ok task) (CheckOf log_verdict files lock cert problem))
      → IfSome before (λ files. Gives (Ok task) (CheckAt files dir root problem))
  check_read None problem task read = tt
  check_read (Some files) problem task read = rw (at_lock, at_cert) at read

  -- what stopped says which root
  pub stop_read : (before : Option Files) (problem : Problem) (stop told : ReadStop) → told ≡ stop_in_root root stop
      → IfSome before (λ files. Gives {T = Task} (Err stop) (CheckOf log_verdict files lock cert problem))
      → IfSome before (λ files. Gives {T = Task} (Err told) (CheckAt files dir root problem))
  stop_read None problem stop told is read = tt
  stop_read (Some files) problem stop told is read =
      rw is (stop_gives root stop (CheckOf log_verdict files (lock_at dir root) (cert_at dir root) problem) (rw (at_lock, at_cert) at read))

  -- the graph is the best
  pub check_seen : (before : Option Files) (problem : Problem) → IfSome before (λ files. IsBestLock files lock problem)
      → IfSome before (λ files. IsBestLock files (lock_at dir root) problem)
  check_seen None problem seen = tt
  check_seen (Some files) problem seen = rw at_lock at seen

  -- a device fails only there
  pub stop_path : (before : Option Files) (problem : Problem) (stop told : ReadStop) → told ≡ stop_in_root root stop
      → FailsAtCheck {A = Task} before lock cert problem (Err stop)
      → FailsAtCheck {A = Task} before (lock_at dir root) (cert_at dir root) problem (Err told)
  stop_path before problem (Refused refusal) told is there = rw is tt
  stop_path before problem (Fault path) told is there = rw is (rw (at_lock, at_cert) at there)
  stop_path before problem NoMemory told is there = rw is tt

-- a fault of a device stays one
pub stop_reads : {D : Type 0} (files : D → Option Files) (faults puts : D → ℕ) (before after : D) (root : ℕ) (stop told : ReadStop)
    → told ≡ stop_in_root root stop → OnlyReads {T = Task} files faults puts before after (Err stop)
    → OnlyReads {T = Task} files faults puts before after (Err told)
stop_reads files faults puts before after root (Refused refusal) told is only = rw is only
stop_reads files faults puts before after root (Fault path) told is only = rw is only
stop_reads files faults puts before after root NoMemory told is only = rw is only

-- ---- those of all roots

drop_at : {X : Type 0} (xs : List X) (i : ℕ) (x : X) → slice_get xs i ≡ Some x → drop i xs ≡ x ∷ drop (i + 1) xs
drop_at xs i x is =
    drop_more xs i x (slice_get_within xs i x is) ∙ ap (λ y. y ∷ drop (i + 1) xs) (get_or_from_slice_get xs i x x is)

take_at : {X : Type 0} (xs : List X) (i : ℕ) (x : X) → slice_get xs i ≡ Some x → take (i + 1) xs ≡ take i xs ++ x ∷ []
take_at xs i x is =
    take_more xs i x (slice_get_within xs i x is) ∙ ap (λ y. take i xs ++ y ∷ []) (get_or_from_slice_get xs i x x is)

then_more : (files : Files) (dir : List ℕ) (root : ℕ) (problem : Problem) (more : List Problem) (task : Task)
    → CheckAt files dir root problem (Ok task) → (r : Result Task Refusal) → ChecksOf log_verdict files dir (root + 1) more r
    → ChecksOf log_verdict files dir root (problem ∷ more) r
then_more files dir root problem more task is (Ok y) rest = (task, is, rest)
then_more files dir root problem more task is (Err e) rest = inr (task, is, rest)

-- what the checks of the roots from a place on give, those of all do
abbrev pub RestIs : Files → List ℕ → ℕ → List Problem → Type 0
RestIs files dir place problems = (r : Result Task Refusal) → ChecksOf log_verdict files dir place (drop place problems) r
    → ChecksOf log_verdict files dir 0 problems r

module _ (before : Option Files) (dir : List ℕ) (place : ℕ) (problems : List Problem) where
  -- one more root was accepted
  pub rest_next : (one : Problem) (task : Task) → slice_get problems place ≡ Some one
      → IfSome before (λ files. Gives (Ok task) (CheckAt files dir place one)) → IfSome before (λ files. RestIs files dir place problems)
      → IfSome before (λ files. RestIs files dir (place + 1) problems)
  rest_next one task is here so_far = over before here so_far
    where
      over : (told : Option Files) → IfSome told (λ files. Gives (Ok task) (CheckAt files dir place one))
          → IfSome told (λ files. RestIs files dir place problems) → IfSome told (λ files. RestIs files dir (place + 1) problems)
      over None here so_far = tt
      over (Some files) here so_far = λ r rest.
          so_far r (rw (drop_at problems place one is) (then_more files dir place one (drop (place + 1) problems) task here r rest))

  -- a root stopped the checks
  pub rest_stopped : (one : Problem) (stop : ReadStop) → slice_get problems place ≡ Some one
      → IfSome before (λ files. Gives {T = Task} (Err stop) (CheckAt files dir place one))
      → IfSome before (λ files. RestIs files dir place problems)
      → IfSome before (λ files. Gives {T = Task} (Err stop) (ChecksOf log_verdict files dir 0 problems))
  rest_stopped one stop is here so_far = over before stop here so_far
    where
      over : (told : Option Files) (given : ReadStop) → IfSome told (λ files. Gives {T = Task} (Err given) (CheckAt files dir place one))
          → IfSome told (λ files. RestIs files dir place problems)
          → IfSome told (λ files. Gives {T = Task} (Err given) (ChecksOf log_verdict files dir 0 problems))
      over None given here so_far = tt
      over (Some files) (Refused refusal) here so_far = so_far (Err refusal) (rw (drop_at problems place one is) (inl here))
      over (Some files) (Fault path) here so_far = tt
      over (Some files) NoMemory here so_far = tt

  -- all roots were accepted
  pub rest_done : place ≡ length problems → IfSome before (λ files. RestIs files dir place problems)
      → IfSome before (λ files. Gives (Ok tasks.Accepted) (ChecksOf log_verdict files dir 0 problems))
  rest_done all so_far = over before so_far
    where
      over : (told : Option Files) → IfSome told (λ files. RestIs files dir place problems)
          → IfSome told (λ files. Gives (Ok tasks.Accepted) (ChecksOf log_verdict files dir 0 problems))
      over None so_far = tt
      over (Some files) so_far =
          so_far (Ok tasks.Accepted) (rw (all, drop-length problems) refl)

-- before the first
pub rest_all : (before : Option Files) (dir : List ℕ) (problems : List Problem) → IfSome before (λ files. RestIs files dir 0 problems)
rest_all None dir problems = tt
rest_all (Some files) dir problems = λ r rest. rest

-- ---- what is shown of them

best_behind : (files : Files) (dir : List ℕ) (from : ℕ) (front : List Problem) (one : Problem) → AreBestLocks files dir from front
    → IsBestLock files (lock_at dir (from + length front)) one → AreBestLocks files dir from (front ++ one ∷ [])
best_behind files dir from [] one before here = let none : from + 0 ≡ from = omega arith in (rw none at here, tt)
best_behind files dir from (p ∷ front) one before here =
    let there : from + length (p ∷ front) ≡ (from + 1) + length front = omega arith in
    (before.0, best_behind files dir (from + 1) front one before.1 (rw there at here))

module _ (before : Option Files) (dir : List ℕ) (place : ℕ) (problems : List Problem) where
  -- one more lock file is the best
  pub best_next : (one : Problem) → slice_get problems place ≡ Some one → IfSome before (λ files. IsBestLock files (lock_at dir place) one)
      → IfSome before (λ files. AreBestLocks files dir 0 (take place problems))
      → IfSome before (λ files. AreBestLocks files dir 0 (take (place + 1) problems))
  best_next one is here so_far = over before here so_far
    where
      over : (told : Option Files) → IfSome told (λ files. IsBestLock files (lock_at dir place) one)
          → IfSome told (λ files. AreBestLocks files dir 0 (take place problems))
          → IfSome told (λ files. AreBestLocks files dir 0 (take (place + 1) problems))
      over None here so_far = tt
      over (Some files) here so_far =
          let within : place < length problems = slice_get_within problems place one is in
          let front : length (take place problems) ≡ place = length-take-le place problems (omega (arith, within)) in
          let long : 0 + length (take place problems) ≡ place = omega (arith, front) in
          rw (take_at problems place one is) (best_behind files dir 0 (take place problems) one so_far (rw long here))

  -- behind the last root all are
  pub best_done : place ≡ length problems → IfSome before (λ files. AreBestLocks files dir 0 (take place problems))
      → IfSome before (λ files. AreBestLocks files dir 0 problems)
  best_done all so_far = rw (take_all place problems (omega (arith, all))) at so_far

-- before the first root none has to be
pub best_none : (before : Option Files) (dir : List ℕ) (problems : List Problem)
    → IfSome before (λ files. AreBestLocks files dir 0 (take 0 problems))
best_none None dir problems = tt
best_none (Some files) dir problems = tt

-- ---- where a device fails

-- at the files of one of them, behind those before
pub root_failed : (told : Option Files) (dir : List ℕ) (place : ℕ) (problems : List Problem) (one : Problem) (stop : ReadStop)
    → slice_get problems place ≡ Some one → IfSome told (λ files. AreBestLocks files dir 0 (take place problems))
    → FailsAtCheck {A = Task} told (lock_at dir place) (cert_at dir place) one (Err stop)
    → FailsAtRoots {A = Task} told dir problems (Err stop)
root_failed told dir place problems one (Refused refusal) is best there = tt
root_failed told dir place problems one (Fault path) is best there = record {
  root = place;
  problem = one;
  here = is;
  before = best;
  inside = there;
}
root_failed told dir place problems one NoMemory is best there = tt
