-- What the yes of `check`, of `check_each`, of `fresh` and of `refute` shows, and the no of
-- `fresh`.
use Rattle.std.specs.Prelude.{◌≡◌, ℕ, ◌+◌, Bool, true, false, List, [], ◌∷◌, Ok}
use Rattle.outside_desk.specs.Files.{Files}
use Rattle.graph_core.specs.Graphs.{Content}
use Rattle.problem.specs.Nodes.{IsWellFormed}
use Rattle.graph_rules.specs.Costs.{vector, smaller}
use Rattle.graph_rules.specs.Optimal.{IsOptimal, HasNoGraph}
use Rattle.run_input.specs.Words.{Command}
use Rattle.run_input.specs.Work.{Work}
use Rattle.run_input.specs.Work.TheVariants as works
use Rattle.run_input.specs.Inputs.{ReadsInput}
use Rattle.run_input.specs.declared.input.Input.{Input}
use Rattle.run_task.specs.Problems.{Problem, each_alone}
use Rattle.run_task.specs.Places.{lock_at}
use Rattle.run_task.specs.Verdicts.{IsValidLock}
use Rattle.run_task.specs.Tasks.{files_for, is_search}
use Rattle.run_task.specs.declared.task.Task.{Task}
use Rattle.run_task.specs.declared.task.Task.TheVariants as tasks

-- the file at the path is a lock file of just the roots that are asked for, and its graph is valid,
-- with these costs, and optimal
pub record IsBestLock (files : Files) (path : List ℕ) (problem : Problem) : Type 0 where
  pub costs : List ℕ
  pub valid : IsValidLock files path problem costs
  pub optimal : IsOptimal problem valid.lock.graph

-- the file at the path is a lock file of just the roots that are asked for, and its graph is valid;
-- but another graph is optimal, and costs less
pub record IsOutdoneLock (files : Files) (path : List ℕ) (problem : Problem) : Type 0 where
  pub costs : List ℕ
  pub valid : IsValidLock files path problem costs
  pub best : Content
  pub well_formed : IsWellFormed best
  pub optimal : IsOptimal problem best
  pub less : smaller (vector problem best) costs ≡ true

-- the lock files of problems apart, whose files have numbers from this one on, are the best
abbrev pub AreBestLocks : Files → List ℕ → ℕ → List Problem → Type 0
AreBestLocks files dir root [] = Unit {0}
AreBestLocks files dir root (problem ∷ more) = IsBestLock files (lock_at dir root) problem × AreBestLocks files dir (root + 1) more

-- what a command's yes shows of the problem that was read
abbrev pub ShownBy : Work → Files → Command → Problem → Type 0
ShownBy works.Check files command problem = IsBestLock files command.lock problem
ShownBy works.Fresh files command problem = IsBestLock files command.lock problem
ShownBy works.Refute files command problem = HasNoGraph problem
ShownBy works.CheckEach files command problem = AreBestLocks files command.lock 0 (each_alone problem)
ShownBy other files command problem = Unit {0}

-- what its no shows
abbrev pub OutdoneBy : Work → Files → Command → Problem → Type 0
OutdoneBy works.Fresh files command problem = IsOutdoneLock files command.lock problem
OutdoneBy other files command problem = ⊥

-- the lock file at the path is right, and has the costs that the task compares
abbrev pub ComparesLock : Files → List ℕ → Problem → Task → Type 0
ComparesLock files path problem (tasks.Compare input numbers) = (input.problem ≡ problem) × IsValidLock files path problem numbers
ComparesLock files path problem other = ⊥

-- what reading alone shows of a task: of `check`, `check_each` and `refute` all that their yes
-- does, of `fresh` that the lock file is right and has the costs that are to be compared
abbrev pub SeenBy : Work → Task → Files → Command → Problem → Type 0
SeenBy works.Check task files command problem = IsBestLock files command.lock problem
SeenBy works.Refute task files command problem = HasNoGraph problem
SeenBy works.CheckEach task files command problem = AreBestLocks files command.lock 0 (each_alone problem)
SeenBy works.Fresh task files command problem = ComparesLock files command.lock problem task
SeenBy other task files command problem = Unit {0}

module _ (By : Files → Command → Problem → Type 0) where
  -- the input that a command reads over these files, of which this is shown
  pub record IsShownOver (files : Files) (command : Command) : Type 0 where
    pub input : Input
    pub read : ReadsInput files command (Ok input)
    pub shown : By files command input.problem

  -- a command that looks for installed packages reads no input
  abbrev pub IsShownUnless : Bool → Files → Command → Type 0
  IsShownUnless true files command = Unit {0}
  IsShownUnless false files command = IsShownOver files command

  -- the same over the files for which the command asks
  abbrev pub IsShownFor : Files → Command → Type 0
  IsShownFor files command = IsShownUnless (is_search command.work) (files_for command.work files) command

-- what a command's yes shows, over the files for which it asks
abbrev pub IsShown : Files → Command → Type 0
IsShown files command = IsShownFor (ShownBy command.work) files command

-- what its no shows
abbrev pub IsOutdone : Files → Command → Type 0
IsOutdone files command = IsShownOver (OutdoneBy command.work) (files_for command.work files) command

-- what reading shows of a task
abbrev pub IsSeenOver : Files → Command → Task → Type 0
IsSeenOver files command task = IsShownUnless (SeenBy command.work task) (is_search command.work) files command

abbrev pub IsSeen : Files → Command → Task → Type 0
IsSeen files command task = IsSeenOver (files_for command.work files) command task
