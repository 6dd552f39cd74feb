-- What was looked at, as a task, and what holds beside any answer.
use Rattle.std.proofs.Common.{◌≡◌, sym, subst, ℕ, true, List, Option, Some, None, Result, Ok, Err}
use Rattle.std.specs.Prelude.{IfSome, IfOk}
use Rattle.outside_desk.specs.Files.{Files}
use Rattle.run_input.specs.Stages.{Is}
use Rattle.run_input.specs.Stops.{Gives}
use Rattle.run_input.specs.ReadStop.{ReadStop}
use Rattle.run_input.proofs.StageLaws.{then_stop}
use Rattle.run_input.specs.Words.{Command}
use Rattle.run_input.specs.Work.{Work}
use Rattle.run_input.specs.Work.TheVariants as works
use Rattle.run_input.specs.Inputs.{Seeks}
use Rattle.run_input.specs.declared.input.Input.{Input}
use Rattle.run_input.specs.declared.query.Query.{Query}
use Rattle.graph_core.specs.Graphs.{Content}
use Rattle.run_task.specs.Problems.{Problem, each_alone}
use Rattle.run_task.specs.Verdicts.{GraphAt, Judges}
use Rattle.run_task.specs.Certificates.{certified_at, log_verdict}
use Rattle.run_task.specs.Tasks.{AcceptanceOf, CheckOf, ChecksOf, ComparisonOf, OverUnless, PlanOf, ReportOf, TaskBy}
use Rattle.run_task.specs.declared.task.Task.{Task}
use Rattle.run_task.specs.declared.task.Task.TheVariants as tasks

-- a lock file of which nothing was said
pub judged_stop : (before : Option Files) (path : List ℕ) (problem : Problem) (stop : ReadStop)
    → IfSome before (λ files. Gives {T = List ℕ} (Err stop) (Judges files path problem))
    → IfSome before (λ files. Gives {T = Task} (Err stop) (ReportOf files path problem))
judged_stop None path problem stop read = tt
judged_stop (Some files) path problem stop read =
    then_stop (Judges files path problem) (λ numbers. Is (Ok (tasks.Report numbers))) stop read

-- one that is to be compared
pub compared_stop : (before : Option Files) (path : List ℕ) (input : Input) (stop : ReadStop)
    → IfSome before (λ files. Gives {T = List ℕ} (Err stop) (Judges files path input.problem))
    → IfSome before (λ files. Gives {T = Task} (Err stop) (ComparisonOf files path input))
compared_stop None path input stop read = tt
compared_stop (Some files) path input stop read =
    then_stop (Judges files path input.problem) (λ numbers. Is (Ok (tasks.Compare input numbers))) stop read

-- one whose graph is to be put in order
pub planned_stop : (before : Option Files) (path : List ℕ) (problem : Problem) (stop : ReadStop)
    → IfSome before (λ files. Gives {T = Content} (Err stop) (GraphAt files path problem))
    → IfSome before (λ files. Gives {T = Task} (Err stop) (PlanOf files path problem))
planned_stop None path problem stop read = tt
planned_stop (Some files) path problem stop read =
    then_stop (GraphAt files path problem) (λ graph. Is (Ok (tasks.Plan graph))) stop read

-- installed packages that are looked for
pub sought_stop : (before : Option Files) (command : Command) (stop : ReadStop)
    → IfSome before (λ files. Gives {T = Query} (Err stop) (Seeks files command))
    → IfSome before (λ files. Gives {T = Task} (Err stop) (OverUnless log_verdict true files command))
sought_stop None command stop read = tt
sought_stop (Some files) command stop read = then_stop (Seeks files command) (λ query. Is (Ok (tasks.Find query))) stop read

-- a certificate of which nothing was said
pub certified_stop : (before : Option Files) (path : List ℕ) (problem : Problem) (numbers : Option (List ℕ)) (stop : ReadStop)
    → IfSome before (λ files. Gives {T = Unit {0}} (Err stop) (Is (certified_at files path problem numbers)))
    → IfSome before (λ files. Gives {T = Task} (Err stop) (AcceptanceOf log_verdict files path problem numbers))
certified_stop None path problem numbers stop read = tt
certified_stop (Some files) path problem numbers stop read =
    then_stop (Is (certified_at files path problem numbers)) (λ done. Is (Ok tasks.Accepted)) stop read

-- ---- the task of a command, by its work

module _ (before : Option Files) (command : Command) (input : Input) (result : Result Task ReadStop) where
  -- what the work gives is what the command's work gives
  by_work : (work : Work) → command.work ≡ work → IfSome before (λ files. Gives result (TaskBy log_verdict work files command input))
      → IfSome before (λ files. Gives result (TaskBy log_verdict command.work files command input))
  by_work work same read = subst (λ (w : Work). IfSome before (λ files. Gives result (TaskBy log_verdict w files command input)))
      (sym same) read

  -- `judge`
  pub judged : (lock : List ℕ) → command.work ≡ works.Judge → lock ≡ command.lock
      → IfSome before (λ files. Gives result (ReportOf files lock input.problem))
      → IfSome before (λ files. Gives result (TaskBy log_verdict command.work files command input))
  judged lock work same read =
      by_work works.Judge work
      (subst (λ (p : List ℕ). IfSome before (λ files. Gives result (ReportOf files p input.problem))) same read)

  -- `fresh`
  pub compared : (lock : List ℕ) → command.work ≡ works.Fresh → lock ≡ command.lock
      → IfSome before (λ files. Gives result (ComparisonOf files lock input))
      → IfSome before (λ files. Gives result (TaskBy log_verdict command.work files command input))
  compared lock work same read =
      by_work works.Fresh work (subst (λ (p : List ℕ). IfSome before (λ files. Gives result (ComparisonOf files p input))) same read)

  -- `plan`
  pub planned : (lock : List ℕ) → command.work ≡ works.Plan → lock ≡ command.lock
      → IfSome before (λ files. Gives result (PlanOf files lock input.problem))
      → IfSome before (λ files. Gives result (TaskBy log_verdict command.work files command input))
  planned lock work same read =
      by_work works.Plan work (subst (λ (p : List ℕ). IfSome before (λ files. Gives result (PlanOf files p input.problem))) same read)

  -- `check`
  pub checked : (lock cert : List ℕ) → command.work ≡ works.Check → lock ≡ command.lock → cert ≡ command.cert
      → IfSome before (λ files. Gives result (CheckOf log_verdict files lock cert input.problem))
      → IfSome before (λ files. Gives result (TaskBy log_verdict command.work files command input))
  checked lock cert work same too read =
      by_work works.Check work
      (subst (λ (p : List ℕ). IfSome before (λ files. Gives result (CheckOf log_verdict files command.lock p input.problem))) too
      (subst (λ (p : List ℕ). IfSome before (λ files. Gives result (CheckOf log_verdict files p cert input.problem))) same read))

  -- `check_each`
  pub each_checked : (dir : List ℕ) → command.work ≡ works.CheckEach → dir ≡ command.lock
      → IfSome before (λ files. Gives result (ChecksOf log_verdict files dir 0 (each_alone input.problem)))
      → IfSome before (λ files. Gives result (TaskBy log_verdict command.work files command input))
  each_checked dir work same read =
      by_work works.CheckEach work
      (subst (λ (p : List ℕ). IfSome before (λ files. Gives result (ChecksOf log_verdict files p 0 (each_alone input.problem)))) same read)

  -- `refute`
  pub refuted : (cert : List ℕ) → command.work ≡ works.Refute → cert ≡ command.cert
      → IfSome before (λ files. Gives result (AcceptanceOf log_verdict files cert input.problem None))
      → IfSome before (λ files. Gives result (TaskBy log_verdict command.work files command input))
  refuted cert work same read =
      by_work works.Refute work
      (subst (λ (p : List ℕ). IfSome before (λ files. Gives result (AcceptanceOf log_verdict files p input.problem None))) same read)

-- ---- any result

-- what holds anyway holds of each result
pub any_ok : {A : Type 0} (P : Type 0) (result : Result A ReadStop) → P → IfOk result (λ x. P)
any_ok P (Ok x) p = p
any_ok P (Err stop) p = tt
