-- What a command looks at behind its input, and how far it has come there where a device fails.
use Rattle.std.specs.Prelude.{◌≡◌, ◌⊎◌, ℕ, List, take, Option, Some, IfSome, slice_get, Result, Ok, Err}
use Rattle.outside_desk.specs.Files.{Files}
use Rattle.run_input.specs.ReadStop.{ReadStop}
use Rattle.run_input.specs.ReadStop.TheVariants as reads
use Rattle.run_input.specs.Words.{Command}
use Rattle.run_input.specs.Work.{Work}
use Rattle.run_input.specs.Work.TheVariants as works
use Rattle.run_input.specs.Inputs.{ReadsInput, IsInputPath}
use Rattle.run_input.specs.Order.{IsBehind}
use Rattle.run_input.specs.Roots.{RootsOf}
use Rattle.run_input.specs.declared.input.Input.{Input}
use Rattle.run_task.specs.Places.{cert_at, lock_at}
use Rattle.run_task.specs.Problems.{Problem, each_alone}
use Rattle.run_task.specs.Shown.{AreBestLocks}
use Rattle.run_task.specs.Verdicts.{Judges}

-- of a lock file and its certificate: the certificate behind the lock file, of whose graph the
-- costs were said
abbrev pub IsCheckPath : Option Files → List ℕ → List ℕ → Problem → List ℕ → Type 0
IsCheckPath told lock cert problem path = (path ≡ lock) ⊎ ((path ≡ cert) × IsBehind told (λ files. Judges files lock problem))

-- of those of problems apart: the files of one behind those before, whose lock files are the best
pub record IsRootPath (told : Option Files) (dir : List ℕ) (problems : List Problem) (path : List ℕ) : Type 0 where
  pub root : ℕ
  pub problem : Problem
  pub here : slice_get problems root ≡ Some problem
  pub before : IfSome told (λ files. AreBestLocks files dir 0 (take root problems))
  pub inside : IsCheckPath told (lock_at dir root) (cert_at dir root) problem path

-- what is looked at over a problem: the lock file by `judge`, `check`, `fresh` and `plan`, the
-- certificate by `check` and `refute`, and those of all roots by `check_each`
abbrev pub IsKeptPath : Work → Option Files → Command → Problem → List ℕ → Type 0
IsKeptPath works.Judge told command problem path = path ≡ command.lock
IsKeptPath works.Check told command problem path = IsCheckPath told command.lock command.cert problem path
IsKeptPath works.Fresh told command problem path = path ≡ command.lock
IsKeptPath works.Plan told command problem path = path ≡ command.lock
IsKeptPath works.Refute told command problem path = path ≡ command.cert
IsKeptPath works.CheckEach told command problem path = IsRootPath told command.lock (each_alone problem) path
IsKeptPath other told command problem path = ⊥

-- the path is that of such a file, over the problem that was read
pub record IsLookPath (told : Option Files) (command : Command) (path : List ℕ) : Type 0 where
  pub input : Input
  pub read : IfSome told (λ files. ReadsInput files command (Ok input))
  pub roots : RootsOf command.spec (Ok input.problem.roots)
  pub kept : IsKeptPath command.work told command input.problem path

-- what is read: the input, and behind it what the command looks at
abbrev pub IsTaskPath : Option Files → Command → List ℕ → Type 0
IsTaskPath told command path = IsInputPath told command path ⊎ IsLookPath told command path

-- ---- a device fails only while such a path is read

abbrev pub FailsAtTask : {A : Type 0} → Option Files → Command → Result A ReadStop → Type 0
FailsAtTask told command (Err (reads.Fault path)) = IsTaskPath told command path
FailsAtTask told command other = Unit {0}

abbrev pub FailsAtLook : {A : Type 0} → Work → Option Files → Command → Problem → Result A ReadStop → Type 0
FailsAtLook work told command problem (Err (reads.Fault path)) = IsKeptPath work told command problem path
FailsAtLook work told command problem other = Unit {0}

abbrev pub FailsAtRoots : {A : Type 0} → Option Files → List ℕ → List Problem → Result A ReadStop → Type 0
FailsAtRoots told dir problems (Err (reads.Fault path)) = IsRootPath told dir problems path
FailsAtRoots told dir problems other = Unit {0}

abbrev pub FailsAtCheck : {A : Type 0} → Option Files → List ℕ → List ℕ → Problem → Result A ReadStop → Type 0
FailsAtCheck told lock cert problem (Err (reads.Fault path)) = IsCheckPath told lock cert problem path
FailsAtCheck told lock cert problem other = Unit {0}
