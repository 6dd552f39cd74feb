-- What puts leave of the other files.
use Rattle.std.proofs.Common.{◌≡◌, ◌≢◌, inl, inr, refl, ap, ◌∙◌, ℕ, ◌+◌, arith, length, [], ◌∷◌, Bool, true, false, List, cond, Option, Some, None, IfSome, ◌⊎◌}
use Rattle.std.proofs.lemmas.List.{length-map}
use Rattle.std.specs.Cmp.Lexicographic.{nat_list_cmp_total}
use Rattle.std.specs.Str.{bytes_eq}
use Rattle.std.specs.FinMap.{get, insert, get-insert}
use Rattle.std.specs.Prelude.{IsSomeAnd}
use Rattle.std.proofs.lemmas.Map.Text.{is_eq-slice_cmp}
use Rattle.std.proofs.lemmas.Slice.Eq.{bytes_eq-Decides}
use Rattle.std.proofs.lemmas.Bool.{false_from_ne_true}
use Rattle.outside_desk.specs.Files.{Files, with_file, MayHold}
use Rattle.proof_log.specs.declared.line.Line.{Line}
use Rattle.proof_log.specs.Readings.{log_text}
use Rattle.run_task.specs.Answers.{log_of}
use Rattle.run_task.specs.Answer.{Answer}
use Rattle.run_task.specs.Answer.TheVariants as answers
use Rattle.run_output.specs.Locks.{lock_of}
use Rattle.run_task.specs.Words.{is_dash_path}
use Rattle.run_task.specs.Problems.{Problem, alone, each_alone}
use Rattle.run_task.specs.declared.task.Task.{Task}
use Rattle.run_task.specs.declared.task.Task.TheVariants as tasks
use Rattle.run_output.specs.Answers.{KeepsWhole}
use Rattle.run_output.specs.Each.{HoldsFrom}
use Rattle.run_output.specs.Put.{HoldsWhole, MayLock, files_with, with_cert_by}
use Rattle.run_output.specs.Changes.{ChangesOnly, IsNotOf, IsOther}
use Rattle.run_task.specs.Places.{IsOfRoots, cert_at, lock_at}
use Rattle.run_output.specs.Evidence.{evidence}

other_file : (m : Files) (path bytes other : List ℕ) → other ≢ path → get (insert m path bytes) other ≡ get m other
other_file m path bytes other ne =
    let apart : bytes_eq other path ≡ false = false_from_ne_true (bytes_eq other path)
    (λ same. ne ((bytes_eq-Decides other path).0 same)) in
    get-insert nat_list_cmp_total m path bytes other ∙ ap (λ b. cond b (Some bytes) (get m other)) (is_eq-slice_cmp other path ∙ apart)

module _ (Other : List ℕ → Type 0) where
  -- each other file is as it was
  abbrev Keeps : Option Files → Option Files → Type 0
  Keeps None after = Unit {0}
  Keeps (Some m) after = IsSomeAnd after (λ files. (path : List ℕ) → Other path → get files path ≡ get m path)

  keeps_none : (before after : Option Files) → after ≡ before → Keeps before after
  keeps_none None after e = tt
  keeps_none (Some m) after e = rw e (λ path other. refl)

  keeps_put : (before after : Option Files) (at bytes : List ℕ) → ((path : List ℕ) → Other path → path ≢ at)
      → after ≡ with_file before at bytes → Keeps before after
  keeps_put None after at bytes ne e = tt
  keeps_put (Some m) after at bytes ne e = rw e (λ path other. other_file m at bytes path (ne path other))

  keeps_part : (before after : Option Files) (at bytes : List ℕ) → ((path : List ℕ) → Other path → path ≢ at)
      → MayHold before after at bytes → Keeps before after
  keeps_part before after at bytes ne (inl e) = keeps_none before after e
  keeps_part before after at bytes ne (inr e) = keeps_put before after at bytes ne e

  keeps_then : (before between after : Option Files) → Keeps before between → Keeps between after → Keeps before after
  keeps_then None between after first second = tt
  keeps_then (Some m) None after first second = absurd first
  keeps_then (Some m) (Some k) None first second = absurd second
  keeps_then (Some m) (Some k) (Some l) first second = λ path other. second path other ∙ first path other

  module _ (lock cert : List ℕ) (no_lock : (path : List ℕ) → Other path → path ≢ lock)
      (no_cert : is_dash_path cert ≡ false → (path : List ℕ) → Other path → path ≢ cert) where
    keeps_cert_by : (log : List Line) (before : Option Files) (dash : Bool)
        → (dash ≡ false → (path : List ℕ) → Other path → path ≢ cert) → Keeps before (with_cert_by dash cert log before)
    keeps_cert_by log before true ne = keeps_none before before refl
    keeps_cert_by log before false ne = keeps_put before (with_file before cert (log_text log)) cert (log_text log) (ne refl) refl

    keeps_cert : (log : List Line) (before : Option Files) → Keeps before (with_cert_by (is_dash_path cert) cert log before)
    keeps_cert log before = keeps_cert_by log before (is_dash_path cert) no_cert

    keeps_lock : (problem : Problem) (answer : Answer) (before between after : Option Files) → Keeps before between
        → MayLock lock problem answer between after → Keeps before after
    keeps_lock problem (answers.Best graph log) before between after first held =
        keeps_then before between after first (keeps_part between after lock (lock_of problem graph) no_lock held)
    keeps_lock problem (answers.Nothing log) before between after first held = absurd held
    keeps_lock problem (answers.Undecided log) before between after first held = absurd held

    keeps_whole : (problem : Problem) (answer : Answer) (before after : Option Files) → HoldsWhole lock cert problem answer before after
        → Keeps before after
    keeps_whole problem answer before after (inl (dash, held)) =
        keeps_part before after cert (log_text (log_of answer)) (no_cert dash) held
    keeps_whole problem answer before after (inr held) =
        keeps_lock problem answer before (with_cert_by (is_dash_path cert) cert (log_of answer) before) after
        (keeps_cert (log_of answer) before) held

    -- all files of an answer
    keeps_files : (problem : Problem) (answer : Answer) (before : Option Files) → Keeps before (files_with lock cert problem answer before)
    keeps_files problem (answers.Best graph log) before =
        let between = with_cert_by (is_dash_path cert) cert log before in
        keeps_then before between (with_file between lock (lock_of problem graph)) (keeps_cert log before)
        (keeps_put between (with_file between lock (lock_of problem graph)) lock (lock_of problem graph) no_lock refl)
    keeps_files problem (answers.Nothing log) before = keeps_cert log before
    keeps_files problem (answers.Undecided log) before = keeps_cert log before

-- the files of all roots, from a number on
keeps_from : (dir : List ℕ) (count root : ℕ) (problems : List Problem) (found : List Answer) (before after : Option Files)
    → root + length problems ≡ count → HoldsFrom dir root problems found before after
    → Keeps (λ path. ¬ IsOfRoots dir count path) before after
keeps_from dir count root [] found before after all held = absurd held
keeps_from dir count root (problem ∷ more) [] before after all held = absurd held
keeps_from dir count root (problem ∷ more) (answer ∷ others) before after all (inl held) =
    keeps_whole (λ path. ¬ IsOfRoots dir count path) (lock_at dir root) (cert_at dir root)
    (λ path other same. other (record { root = root; within = omega (arith, all); is_path = inl same }))
    (λ dash path other same. other (record { root = root; within = omega (arith, all); is_path = inr same })) problem answer
    before after held
keeps_from dir count root (problem ∷ more) (answer ∷ others) before after all (inr held) =
    let between = files_with (lock_at dir root) (cert_at dir root) problem answer before in
    keeps_then (λ path. ¬ IsOfRoots dir count path) before between after
    (keeps_files (λ path. ¬ IsOfRoots dir count path) (lock_at dir root) (cert_at dir root)
    (λ path other same. other (record { root = root; within = omega (arith, all); is_path = inl same }))
    (λ dash path other same. other (record { root = root; within = omega (arith, all); is_path = inr same })) problem answer before)
    (keeps_from dir count (root + 1) more others between after (omega (arith, all)) held)

module _ (lock cert : List ℕ) where
  -- what any end of writing keeps
  pub keeps : (task : Task) (before after : Option Files) → (after ≡ before) ⊎ KeepsWhole evidence lock cert task before after
      → IfSome before (λ files. ChangesOnly lock cert task files after)
  keeps task None after kept = tt
  keeps task (Some m) after (inl same) = keeps_none (IsNotOf lock cert task) (Some m) after same
  keeps (tasks.Solve input) (Some m) after (inr kept) =
      keeps_whole (IsOther lock cert) lock cert (λ path other. other.no_lock) (λ dash path other. other.no_cert dash) input.problem
      kept.answer (Some m) after kept.held
  keeps (tasks.Each input) (Some m) after (inr kept) =
      keeps_from lock (length input.problem.roots) 0 (each_alone input.problem) kept.found (Some m) after
      (omega (arith, length-map {B = Problem} input.problem.roots (alone input.problem))) kept.held
  keeps other (Some m) after (inr kept) = absurd kept

  -- files that are as they were
  pub unchanged : (task : Task) (before : Files) (after : Option Files) → after ≡ Some before → ChangesOnly lock cert task before after
  unchanged task before after same = keeps_none (IsNotOf lock cert task) (Some before) after same
