-- What a run is to answer, or the refusal that is due first.
use Rattle.std.specs.Prelude.{◌≡◌, ◌⊎◌, ℕ, ◌+◌, Bool, true, false, List, [], ◌∷◌, All, Option, Some, None, Result, Ok, Err}
use Rattle.std.specs.Str.{IsUtf8}
use Rattle.outside_desk.specs.Files.{Files}
use Rattle.graph_core.specs.OfReachability.Paths.{IsAcyclic}
use Rattle.graph_core.specs.Paths.{JoinedIn}
use Rattle.spec_grammar.specs.Canonical.{spec_text}
use Rattle.spec_grammar.specs.declared.part.Spec.{Spec}
use Rattle.run_input.specs.Stages.{Is, Then, InRoot}
use Rattle.run_input.specs.Refusal.{Refusal}
use Rattle.run_input.specs.Words.{Command, command_of}
use Rattle.run_input.specs.Work.{Work}
use Rattle.run_input.specs.Work.TheVariants as works
use Rattle.run_input.specs.Inputs.{ReadsInput, Seeks, IsPosed}
use Rattle.run_input.specs.Roots.{RootsOf, ConditionOf}
use Rattle.run_input.specs.declared.input.Input.{Input}
use Rattle.run_task.specs.Problems.{Problem, each_alone}
use Rattle.run_task.specs.Verdicts.{GraphAt, HasCosts, Judges}
use Rattle.run_task.specs.CertificateVerdicts.{CertificateVerdicts}
use Rattle.run_task.specs.Places.{cert_at, lock_at}
use Rattle.trial_input.specs.Inputs.{input_files}
use Rattle.run_task.specs.declared.task.Task.{Task}
use Rattle.run_task.specs.declared.task.Task.TheVariants as tasks

-- the number of packages and the seed of a trial
abbrev pub made_for : Work → Option (ℕ × ℕ)
made_for works.Concretize = None
made_for works.Judge = None
made_for works.Check = None
made_for works.Refute = None
made_for works.Explain = None
made_for works.Reasons = None
made_for works.Fresh = None
made_for works.Find = None
made_for works.Plan = None
made_for works.Each = None
made_for works.CheckEach = None
made_for (works.Trial packages seed) = Some (packages, seed)

abbrev pub files_by : Option (ℕ × ℕ) → Files → Files
files_by None files = files
files_by (Some made) files = input_files made.0 made.1

-- the files over which a command works: those of the desk, or for a trial those that are made
abbrev pub files_for : Work → Files → Files
files_for work files = files_by (made_for work) files

-- whether installed packages are looked for: then the specs are one condition, and pose no problem
abbrev pub is_search : Work → Bool
is_search works.Find = true
is_search other = false

-- what is said of the lock file at the path, as a task
abbrev pub ReportOf : Files → List ℕ → Problem → Result Task Refusal → Type 0
ReportOf files lock problem = Then (Judges files lock problem) (λ numbers. Is (Ok (tasks.Report numbers)))

-- what is said of it, and then the best graph is to be found, and compared with its costs
abbrev pub ComparisonOf : Files → List ℕ → Input → Result Task Refusal → Type 0
ComparisonOf files lock input = Then (Judges files lock input.problem) (λ numbers. Is (Ok (tasks.Compare input numbers)))

-- what is said of it, and then its graph is to be put in order
abbrev pub PlanOf : Files → List ℕ → Problem → Result Task Refusal → Type 0
PlanOf files lock problem = Then (GraphAt files lock problem) (λ graph. Is (Ok (tasks.Plan graph)))

module _ (verdicts : CertificateVerdicts) where
  -- what is said of the certificate at the path, as a task: of a graph with these costs, or of none
  abbrev pub AcceptanceOf : Files → List ℕ → Problem → Option (List ℕ) → Result Task Refusal → Type 0
  AcceptanceOf files cert problem numbers = Then (verdicts files cert problem numbers) (λ done. Is (Ok tasks.Accepted))

  -- the lock file's graph first, and then its certificate
  abbrev pub CheckOf : Files → List ℕ → List ℕ → Problem → Result Task Refusal → Type 0
  CheckOf files lock cert problem = Then (Judges files lock problem) (λ numbers. AcceptanceOf files cert problem (Some numbers))

  -- of the lock files and the certificates of problems apart, whose files have numbers from this
  -- one on: the first problem of which one is refused gives the refusal, which says its number
  abbrev pub ChecksOf : Files → List ℕ → ℕ → List Problem → Result Task Refusal → Type 0
  ChecksOf files dir root [] = Is (Ok tasks.Accepted)
  ChecksOf files dir root (problem ∷ more) =
      Then (InRoot root (CheckOf files (lock_at dir root) (cert_at dir root) problem)) (λ done. ChecksOf files dir (root + 1) more)

  -- a command's own work over what was read: `concretize`, `each`, `explain`, `reasons` and `trial`
  -- have a problem to solve, `judge` says what is said of the lock file, `check` and `refute` of
  -- the certificate; `fresh` and `plan` do as `judge` first, and `check_each` as `check` for each
  -- root by itself
  abbrev pub TaskBy : Work → Files → Command → Input → Result Task Refusal → Type 0
  TaskBy works.Concretize files command input = Is (Ok (tasks.Solve input))
  TaskBy works.Judge files command input = ReportOf files command.lock input.problem
  TaskBy works.Check files command input = CheckOf files command.lock command.cert input.problem
  TaskBy works.Fresh files command input = ComparisonOf files command.lock input
  TaskBy works.Plan files command input = PlanOf files command.lock input.problem
  TaskBy works.Refute files command input = AcceptanceOf files command.cert input.problem None
  TaskBy works.Each files command input = Is (Ok (tasks.Each input))
  TaskBy works.CheckEach files command input = ChecksOf files command.lock 0 (each_alone input.problem)
  TaskBy works.Explain files command input = Is (Ok (tasks.Explain input))
  TaskBy works.Reasons files command input = Is (Ok (tasks.Reasons input))
  TaskBy works.Find files command input = λ posed. ⊥
  TaskBy (works.Trial packages seed) files command input = Is (Ok (tasks.Try input))

  -- what is read over these files is one for all commands that pose a problem, and then comes the
  -- command's own work
  abbrev pub OverUnless : Bool → Files → Command → Result Task Refusal → Type 0
  OverUnless true files command = Then (Seeks files command) (λ query. Is (Ok (tasks.Find query)))
  OverUnless false files command = Then (ReadsInput files command) (TaskBy command.work files command)

  abbrev pub Over : Files → Command → Result Task Refusal → Type 0
  Over files command = OverUnless (is_search command.work) files command

  -- the task of a command over the files
  abbrev pub Named : Files → Command → Result Task Refusal → Type 0
  Named files command = Over (files_for command.work files) command

  -- the task of the words over the files: words that are no command pose nothing
  abbrev pub Poses : Files → List (List ℕ) → Result Task Refusal → Type 0
  Poses files words posed = (command : Command) × (command_of words ≡ Some command) × Named files command posed

-- the task is of this work
abbrev pub IsOf : Work → Task → Type 0
IsOf works.Concretize (tasks.Solve input) = Unit {0}
IsOf works.Judge (tasks.Report numbers) = Unit {0}
IsOf works.Check tasks.Accepted = Unit {0}
IsOf works.Refute tasks.Accepted = Unit {0}
IsOf works.Explain (tasks.Explain input) = Unit {0}
IsOf works.Reasons (tasks.Reasons input) = Unit {0}
IsOf works.Fresh (tasks.Compare input numbers) = Unit {0}
IsOf works.Find (tasks.Find query) = Unit {0}
IsOf works.Plan (tasks.Plan graph) = Unit {0}
IsOf works.Each (tasks.Each input) = Unit {0}
IsOf works.CheckEach tasks.Accepted = Unit {0}
IsOf (works.Trial packages seed) (tasks.Try input) = Unit {0}
IsOf other task = ⊥

-- the canonical texts of the roots that are to be written are UTF-8, as those of all specs which
-- were read, and the problem is what each one is that is read
abbrev pub IsReadyInput : Input → Type 0
IsReadyInput input = All (λ spec. IsUtf8 (spec_text spec)) input.problem.roots × IsPosed input

-- what each task is: a problem that is searched is ready, some valid graph has the costs that are
-- compared, and a graph that is put in order has no cycle
abbrev pub IsReady : Task → Type 0
IsReady (tasks.Solve input) = IsReadyInput input
IsReady (tasks.Each input) = IsReadyInput input
IsReady (tasks.Explain input) = IsReadyInput input
IsReady (tasks.Reasons input) = IsReadyInput input
IsReady (tasks.Try input) = IsReadyInput input
IsReady (tasks.Report numbers) = Unit {0}
IsReady tasks.Accepted = Unit {0}
IsReady (tasks.Compare input numbers) = IsReadyInput input × HasCosts input.problem numbers
IsReady (tasks.Find query) = Unit {0}
IsReady (tasks.Plan graph) = IsAcyclic (JoinedIn graph)

-- ---- what the looks at files give

abbrev pub IsReportTask : Task → Type 0
IsReportTask (tasks.Report numbers) = Unit {0}
IsReportTask other = ⊥

abbrev pub IsComparisonTask : Task → Type 0
IsComparisonTask (tasks.Compare input numbers) = Unit {0}
IsComparisonTask other = ⊥

abbrev pub IsPlanTask : Task → Type 0
IsPlanTask (tasks.Plan graph) = Unit {0}
IsPlanTask other = ⊥

abbrev pub IsYes : Task → Type 0
IsYes tasks.Accepted = Unit {0}
IsYes other = ⊥

-- ---- what is read of the words

-- the text of the specs as a condition, or as roots
abbrev pub HasSpecsBy : Bool → List ℕ → Type 0
HasSpecsBy true text = (spec : Spec) × ConditionOf text (Ok spec)
HasSpecsBy false text = (roots : List Spec) × RootsOf text (Ok roots)

-- a command whose specs were read
abbrev pub HasSpecs : Command → Type 0
HasSpecs command = HasSpecsBy (is_search command.work) command.spec

-- where each root is solved by itself, the roots are those that the text of the specs asks for
abbrev pub HasRoots : List ℕ → Task → Type 0
HasRoots text (tasks.Each input) = RootsOf text (Ok input.problem.roots)
HasRoots text other = Unit {0}
