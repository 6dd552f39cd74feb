-- What the words pose over files.
use Rattle.std.proofs.Common.{◌≡◌, refl, inl, inr, ℕ, ◌+◌, List, [], ◌∷◌, Bool, true, false, Option, Some, None, Ok, Err}
use Rattle.outside_desk.specs.Files.{Files}
use Rattle.run_answers.specs.Stages.{InRoot, Is}
use Rattle.run_answers.specs.declared.refusal.Refusal.TheVariants as refusals
use Rattle.run_words.specs.Words.{Command, command_of}
use Rattle.run_words.specs.declared.command.Work.{Work}
use Rattle.run_words.specs.declared.command.Work.TheVariants as works
use Rattle.run_input.specs.Inputs.{ReadsInput, Seeks}
use Rattle.run_input.specs.declared.input.Input.{Input}
use Rattle.run_task.specs.Certificates.{certified_at, log_verdict}
use Rattle.run_task.specs.Locks.{LockAt, LockIn, NamedAt, lock_bytes, named_lock}
use Rattle.run_task.specs.Places.{cert_at, lock_at}
use Rattle.run_task.specs.Problems.{Problem, each_alone}
use Rattle.run_task.specs.Tasks.{AcceptanceOf, CheckOf, ChecksOf, Named, OverUnless, Poses, TaskBy, files_for, is_search}
use Rattle.run_task.specs.Verdicts.{GraphAt, Judges, judged}
use Rattle.run_task.specs.declared.task.Task.TheVariants as tasks
use Rattle.total_readings.proofs.Entries.{AreTotal}
use Rattle.total_readings.proofs.Inputs.{input_read, query_read}
use Rattle.total_readings.proofs.Locks.{lock_said}
use Rattle.total_readings.proofs.Stages.{Answers, computed, root_answers, then_answers}

-- ---- lock files and certificates

lock_in : (bytes : List ℕ) → Answers (LockIn bytes)
lock_in bytes = elim (lock_said bytes) [
  | inl (lock, is) ↦ (Ok lock, is)
  | inr (f, is, other) ↦ (Err (refusals.BadLock f), (f, is, other, refl))
]

module _ (files : Files) where
  lock_read : (path : List ℕ) → Answers (LockAt files path)
  lock_read path = then_answers (Is (lock_bytes files path)) LockIn (computed (lock_bytes files path)) lock_in

  named_read : (path : List ℕ) (problem : Problem) → Answers (NamedAt files path problem)
  named_read path problem = then_answers (LockAt files path) _ (lock_read path) (λ lock. computed (Ok (named_lock problem lock)))

  verdict_read : (path : List ℕ) (problem : Problem) → Answers (Judges files path problem)
  verdict_read path problem = then_answers (NamedAt files path problem) _ (named_read path problem) (λ lock. computed (judged problem lock))

  graph_read : (path : List ℕ) (problem : Problem) → Answers (GraphAt files path problem)
  graph_read path problem =
      then_answers (NamedAt files path problem) _ (named_read path problem)
      (λ lock. then_answers (Is (judged problem lock)) _ (computed (judged problem lock)) (λ numbers. computed (Ok lock.graph)))

  acceptance : (cert : List ℕ) (problem : Problem) (numbers : Option (List ℕ))
      → Answers (AcceptanceOf log_verdict files cert problem numbers)
  acceptance cert problem numbers =
      then_answers (Is (certified_at files cert problem numbers)) _ (computed (certified_at files cert problem numbers))
      (λ done. computed (Ok tasks.Accepted))

  checked : (lock cert : List ℕ) (problem : Problem) → Answers (CheckOf log_verdict files lock cert problem)
  checked lock cert problem =
      then_answers (Judges files lock problem) _ (verdict_read lock problem) (λ numbers. acceptance cert problem (Some numbers))

  each_checked : (dir : List ℕ) (root : ℕ) (problems : List Problem) → Answers (ChecksOf log_verdict files dir root problems)
  each_checked dir root [] = computed (Ok tasks.Accepted)
  each_checked dir root (problem ∷ more) =
      then_answers (InRoot root (CheckOf log_verdict files (lock_at dir root) (cert_at dir root) problem)) _
      (root_answers root (CheckOf log_verdict files (lock_at dir root) (cert_at dir root) problem)
      (checked (lock_at dir root) (cert_at dir root) problem))
      (λ done. each_checked dir (root + 1) more)

  -- ---- the task of a command, by its work

  task_by : (work : Work) (command : Command) (input : Input) → is_search work ≡ false
      → Answers (TaskBy log_verdict work files command input)
  task_by works.Concretize command input apart = computed (Ok (tasks.Solve input))
  task_by works.Judge command input apart =
      then_answers (Judges files command.lock input.problem) _ (verdict_read command.lock input.problem)
      (λ numbers. computed (Ok (tasks.Report numbers)))
  task_by works.Check command input apart = checked command.lock command.cert input.problem
  task_by works.Fresh command input apart =
      then_answers (Judges files command.lock input.problem) _ (verdict_read command.lock input.problem)
      (λ numbers. computed (Ok (tasks.Compare input numbers)))
  task_by works.Plan command input apart =
      then_answers (GraphAt files command.lock input.problem) _ (graph_read command.lock input.problem)
      (λ graph. computed (Ok (tasks.Plan graph)))
  task_by works.Find command input apart = absurd (let bad : true ≡ false = apart in cc)
  task_by works.Refute command input apart = acceptance command.cert input.problem None
  task_by works.Each command input apart = computed (Ok (tasks.Each input))
  task_by works.CheckEach command input apart = each_checked command.lock 0 (each_alone input.problem)
  task_by works.Explain command input apart = computed (Ok (tasks.Explain input))
  task_by works.Reasons command input apart = computed (Ok (tasks.Reasons input))
  task_by (works.Trial packages seed) command input apart = computed (Ok (tasks.Try input))

  over : AreTotal → (search : Bool) (command : Command) → is_search command.work ≡ search
      → Answers (OverUnless log_verdict search files command)
  over total true command is =
      then_answers (Seeks files command) _ (query_read total files command) (λ query. computed (Ok (tasks.Find query)))
  over total false command is =
      then_answers (ReadsInput files command) (TaskBy log_verdict command.work files command) (input_read total files command)
      (λ input. task_by command.work command input is)

-- words that are a command pose a task, or are due a refusal
pub words_pose : AreTotal → (files : Files) (words : List (List ℕ)) (command : Command) → command_of words ≡ Some command
    → Answers (Poses log_verdict files words)
words_pose total files words command is =
    let some : Answers (Named log_verdict files command) =
    over (files_for command.work files) total (is_search command.work) command refl in
    (some.0, (command, is, some.1))
