-- Which files a run changes.
use Rattle.std.specs.Prelude.{◌≡◌, ◌≢◌, ℕ, false, List, length, Option, IsSomeAnd}
use Rattle.std.specs.FinMap.{get}
use Rattle.outside_desk.specs.Files.{Files}
use Rattle.run_task.specs.Words.{is_dash_path}
use Rattle.run_task.specs.Places.{IsOfRoots}
use Rattle.run_task.specs.declared.task.Task.{Task}
use Rattle.run_task.specs.declared.task.Task.TheVariants as tasks

-- the path is not that of the lock file, nor of the certificate where there is one
pub record IsOther (lock cert path : List ℕ) : Type 0 where
  pub no_lock : path ≢ lock
  pub no_cert : is_dash_path cert ≡ false → path ≢ cert

-- the path is none at which a task may put a file: for the best graph the lock file's and the
-- certificate's where there is one; for each root by itself those of its number, for all numbers
-- below that of the roots; no other task puts any
abbrev pub IsNotOf : List ℕ → List ℕ → Task → List ℕ → Type 0
IsNotOf lock cert (tasks.Solve input) path = IsOther lock cert path
IsNotOf dir cert (tasks.Each input) path = ¬ IsOfRoots dir (length input.problem.roots) path
IsNotOf lock cert task path = Unit {0}

-- no other file changed
abbrev pub ChangesOnly : List ℕ → List ℕ → Task → Files → Option Files → Type 0
ChangesOnly lock cert task before after =
    IsSomeAnd after (λ files. (path : List ℕ) → IsNotOf lock cert task path → get files path ≡ get before path)
