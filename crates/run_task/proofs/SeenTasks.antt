-- What a task shows of the files, and over which files it was read.
use Rattle.std.proofs.Common.{◌≡◌, ◌∙◌, refl, sym, subst, ℕ, Bool, true, false, List, Option, Some, None, Result, Ok, Err, inl, inr}
use Rattle.std.proofs.lemmas.Bool.{false≢true}
use Rattle.std.specs.Prelude.{IfSome, IfOk, OnOk}
use Rattle.outside_desk.specs.Files.{Files, StillTells}
use Rattle.outside_desk.proofs.Tellings.{held_still}
use Rattle.run_input.specs.Stops.{Gives}
use Rattle.run_input.specs.ReadStop.{ReadStop}
use Rattle.run_input.specs.Words.{Command}
use Rattle.run_input.specs.Work.{Work}
use Rattle.run_input.specs.Work.TheVariants as works
use Rattle.run_input.specs.Inputs.{ReadsInput}
use Rattle.run_input.specs.declared.input.Input.{Input}
use Rattle.run_input.proofs.Staged.{staged}
use Rattle.run_task.specs.Problems.{Problem}
use Rattle.run_task.specs.Verdicts.{IsValidLock, Judges}
use Rattle.run_task.specs.Certificates.{ShowsOf, log_verdict}
use Rattle.trial_input.specs.Inputs.{input_files}
use Rattle.run_task.specs.Shown.{ComparesLock, IsBestLock, IsSeen, IsSeenOver, IsShownOver, SeenBy}
use Rattle.run_task.specs.Tasks.{AcceptanceOf, CheckOf, HasSpecs, HasSpecsBy, IsOf, Named, Over, OverUnless, files_by, is_search, made_for}
use Rattle.run_task.specs.declared.task.Task.{Task}
use Rattle.run_task.specs.declared.task.Task.TheVariants as tasks

-- the certificate shows that the graph of the lock file is best, where the desk tells its files
-- still
pub best_lock : (between after : Option Files) (path : List ℕ) (problem : Problem) (costs numbers : List ℕ) (result : Result Task ReadStop)
    → StillTells between after → numbers ≡ costs → IfSome between (λ files. IsValidLock files path problem costs)
    → OnOk result (IfSome after (λ files. ShowsOf problem (Some numbers)))
    → OnOk result (IfSome after (λ files. IsBestLock files path problem))
best_lock between None path problem costs numbers (Ok task) still they valid shows = tt
best_lock between (Some files) path problem costs numbers (Ok task) still they valid shows =
    let held : IsValidLock files path problem costs =
    held_still (λ f. IsValidLock f path problem costs) between (Some files) still valid in
    record {
      costs = costs;
      valid = held;
      optimal = shows held.lock.graph held.right.well_formed held.right.is_valid (held.right.costs ∙ sym they);
    }
best_lock between after path problem costs numbers (Err stop) still they valid shows = tt

-- what is said of both
pub checked_both : (between after : Option Files) (lock cert : List ℕ) (problem : Problem) (costs numbers : List ℕ)
    (result : Result Task ReadStop) → StillTells between after → numbers ≡ costs
    → IfSome between (λ files. Gives {T = List ℕ} (Ok costs) (Judges files lock problem))
    → IfSome after (λ files. Gives result (AcceptanceOf log_verdict files cert problem (Some numbers)))
    → IfSome after (λ files. Gives result (CheckOf log_verdict files lock cert problem))
checked_both between after lock cert problem costs numbers result still they judged accepted =
    staged (List ℕ) Task (λ path files. Judges files path problem)
    (λ files n. AcceptanceOf log_verdict files cert problem (Some n)) between after lock lock costs result refl still judged
    (subst (λ (n : List ℕ). IfSome after (λ files. Gives result (AcceptanceOf log_verdict files cert problem (Some n)))) they accepted)

-- what is seen of the task over the input
pub seen_over : (between after : Option Files) (command : Command) (input : Input) (result : Result Task ReadStop)
    → StillTells between after → IfSome between (λ files. Gives {T = Input} (Ok input) (ReadsInput files command))
    → IfOk result (λ task. IfSome after (λ files. SeenBy command.work task files command input.problem))
    → IfOk result (λ task. IfSome after (λ files. IsShownOver (SeenBy command.work task) files command))
seen_over between None command input (Ok task) still read seen = tt
seen_over between (Some files) command input (Ok task) still read seen =
    record {
      input = input;
      read = held_still (λ f. Gives {T = Input} (Ok input) (ReadsInput f command)) between (Some files) still read;
      shown = seen;
    }
seen_over between after command input (Err stop) still read seen = tt

-- the costs that are compared are those of the lock file
pub compares : (before : Option Files) (path : List ℕ) (input : Input) (numbers : List ℕ)
    → IfSome before (λ files. IsValidLock files path input.problem numbers)
    → IfSome before (λ files. ComparesLock files path input.problem (tasks.Compare input numbers))
compares None path input numbers valid = tt
compares (Some files) path input numbers valid = (refl, valid)

-- what is seen of a comparison
pub compared_seen : (command : Command) (input : Input) (result : Result Task ReadStop) (before : Option Files) (lock : List ℕ)
    → command.work ≡ works.Fresh → lock ≡ command.lock
    → IfOk result (λ task. IfSome before (λ files. ComparesLock files lock input.problem task))
    → IfOk result (λ task. IfSome before (λ files. SeenBy command.work task files command input.problem))
compared_seen command input (Ok task) None lock work same seen = tt
compared_seen command input (Ok task) (Some files) lock work same seen =
    subst (λ (w : Work). SeenBy w task files command input.problem) (sym work)
    (subst (λ (p : List ℕ). ComparesLock files p input.problem task) same seen)
compared_seen command input (Err stop) before lock work same seen = tt

-- ---- which work looks for installed packages

-- only `find` looks for them
pub is_find : (work : Work) → is_search work ≡ true → work ≡ works.Find
is_find works.Find is = refl
is_find works.Concretize is = absurd (false≢true is)
is_find works.Judge is = absurd (false≢true is)
is_find works.Check is = absurd (false≢true is)
is_find works.Fresh is = absurd (false≢true is)
is_find works.Refute is = absurd (false≢true is)
is_find works.Explain is = absurd (false≢true is)
is_find works.Reasons is = absurd (false≢true is)
is_find works.Plan is = absurd (false≢true is)
is_find works.Each is = absurd (false≢true is)
is_find works.CheckEach is = absurd (false≢true is)
is_find (works.Trial packages seed) is = absurd (false≢true is)

module _ (command : Command) (result : Result Task ReadStop) where
  -- what is read, where it is known whether installed packages are looked for
  pub over_by : (before : Option Files) (search : Bool) → is_search command.work ≡ search
      → IfSome before (λ files. Gives result (OverUnless log_verdict search files command))
      → IfSome before (λ files. Gives result (Over log_verdict files command))
  over_by before search is read =
      subst (λ (b : Bool). IfSome before (λ files. Gives result (OverUnless log_verdict b files command))) (sym is) read

  -- nothing is seen of installed packages that are looked for
  pub seen_search : (before : Option Files) → is_search command.work ≡ true
      → IfOk result (λ task. IfSome before (λ files. IsSeenOver files command task))
  seen_search before is = here result before
    where
      here : (result : Result Task ReadStop) (before : Option Files)
          → IfOk result (λ task. IfSome before (λ files. IsSeenOver files command task))
      here (Ok task) None = tt
      here (Ok task) (Some files) = rw is tt
      here (Err stop) before = tt

  -- what is seen of a problem
  pub seen_posed : (before : Option Files) → is_search command.work ≡ false
      → IfOk result (λ task. IfSome before (λ files. IsShownOver (SeenBy command.work task) files command))
      → IfOk result (λ task. IfSome before (λ files. IsSeenOver files command task))
  seen_posed before is seen = here result before seen
    where
      here : (result : Result Task ReadStop) (before : Option Files)
          → IfOk result (λ task. IfSome before (λ files. IsShownOver (SeenBy command.work task) files command))
          → IfOk result (λ task. IfSome before (λ files. IsSeenOver files command task))
      here (Ok task) None seen = tt
      here (Ok task) (Some files) seen = rw is seen
      here (Err stop) before seen = tt

  -- `find` looks for installed packages
  pub found_work : is_search command.work ≡ true → IfOk result (λ task. IsOf works.Find task) → IfOk result (λ task. IsOf command.work task)
  found_work is of = subst (λ (w : Work). IfOk result (λ task. IsOf w task)) (sym (is_find command.work is)) of

  -- the specs that were read
  pub specs_by : (search : Bool) → is_search command.work ≡ search → IfOk result (λ task. HasSpecsBy search command.spec)
      → IfOk result (λ task. HasSpecs command)
  specs_by search is specs = subst (λ (b : Bool). IfOk result (λ task. HasSpecsBy b command.spec)) (sym is) specs

-- ---- over which files

-- a desk that tells some files behind a call that only reads told them before
pub tells_on : (before : Option Files) (files : Files) → StillTells before (Some files) → Some files ≡ before
tells_on before files (inl none) = absurd cc
tells_on before files (inr same) = same

module _ (command : Command) (result : Result Task ReadStop) where
  -- files that are made are told
  pub over_made : (before : Option Files) (files : Files) → before ≡ Some files
      → IfSome before (λ f. Gives result (Over log_verdict f command))
      → Gives result (Over log_verdict files command)
  over_made before files same read = subst (λ (b : Option Files). IfSome b (λ f. Gives result (Over log_verdict f command))) same read

  -- the task of a trial
  pub named_made : (before : Option Files) (packages seed : ℕ) → made_for command.work ≡ Some (packages, seed)
      → Gives result (Over log_verdict (input_files packages seed) command)
      → IfSome before (λ files. Gives result (Named log_verdict files command))
  named_made None packages seed made read = tt
  named_made (Some files) packages seed made read =
      subst (λ (m : Option (ℕ × ℕ)). Gives result (Over log_verdict (files_by m files) command)) (sym made) read

  -- the task of another command
  pub named_there : (before : Option Files) → made_for command.work ≡ None
      → IfSome before (λ files. Gives result (Over log_verdict files command))
      → IfSome before (λ files. Gives result (Named log_verdict files command))
  named_there None made read = tt
  named_there (Some files) made read =
      subst (λ (m : Option (ℕ × ℕ)). Gives result (Over log_verdict (files_by m files) command)) (sym made) read

  -- what is seen of a trial
  pub seen_made : (before : Option Files) (packages seed : ℕ) → made_for command.work ≡ Some (packages, seed)
      → IfOk result (λ task. IsSeenOver (input_files packages seed) command task)
      → IfOk result (λ task. IfSome before (λ files. IsSeen files command task))
  seen_made before packages seed made seen = here result before seen
    where
      here : (result : Result Task ReadStop) (before : Option Files)
          → IfOk result (λ task. IsSeenOver (input_files packages seed) command task)
          → IfOk result (λ task. IfSome before (λ files. IsSeen files command task))
      here (Ok task) None seen = tt
      here (Ok task) (Some files) seen = subst (λ (m : Option (ℕ × ℕ)). IsSeenOver (files_by m files) command task) (sym made) seen
      here (Err stop) before seen = tt

  -- and of another command
  pub seen_there : (before : Option Files) → made_for command.work ≡ None
      → IfOk result (λ task. IfSome before (λ files. IsSeenOver files command task))
      → IfOk result (λ task. IfSome before (λ files. IsSeen files command task))
  seen_there before made seen = here result before seen
    where
      here : (result : Result Task ReadStop) (before : Option Files)
          → IfOk result (λ task. IfSome before (λ files. IsSeenOver files command task))
          → IfOk result (λ task. IfSome before (λ files. IsSeen files command task))
      here (Ok task) None seen = tt
      here (Ok task) (Some files) seen = subst (λ (m : Option (ℕ × ℕ)). IsSeenOver (files_by m files) command task) (sym made) seen
      here (Err stop) before seen = tt

  -- files that are made are told
  pub seen_told : (before : Option Files) (files : Files) → before ≡ Some files
      → IfOk result (λ task. IfSome before (λ f. IsSeenOver f command task))
      → IfOk result (λ task. IsSeenOver files command task)
  seen_told before files same seen =
      subst (λ (b : Option Files). IfOk result (λ task. IfSome b (λ f. IsSeenOver f command task))) same seen
