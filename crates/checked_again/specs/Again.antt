-- What `check` and `refute` say of the files that `concretize` left.
use Rattle.std.specs.Prelude.{◌≡◌, ◌≢◌, ◌≤◌, ◌-◌, ◌^◌, ℕ, List, [], ◌∷◌, length, codes, Some, None, Ok}
use Rattle.std.specs.FinMap.{get}
use Rattle.outside_desk.specs.Files.{Files}
use Rattle.outside_desk.specs.Listing.{name_below}
use Rattle.graph_core.specs.Graphs.{Content}
use Rattle.lock_laws.specs.Forms.{IsFormedProblem}
use Rattle.proof_log.specs.declared.line.Line.{Line}
use Rattle.proof_log.specs.Readings.{log_text}
use Rattle.run_input.specs.Paths.{packages_path, recipe_path}
use Rattle.run_task.specs.Problems.{Problem}
use Rattle.run_output.specs.Answer.TheVariants.{Best, Nothing}
use Rattle.run_output.specs.Certificates.{log_verdict}
use Rattle.run_output.specs.Evidence.{IsFor}
use Rattle.run_output.specs.Input.{Input}
use Rattle.run_output.specs.Inputs.{ReadsInput}
use Rattle.run_output.specs.Locks.{lock_of}
use Rattle.run_output.specs.Task.TheVariants.{Accepted}
use Rattle.run_output.specs.Tasks.{Poses}
use Rattle.run_output.specs.Words.{Command, joined_words}
use Rattle.run_output.specs.Work.{Work}
use Rattle.run_output.specs.Work.TheVariants as works
use Rattle.written_again.specs.Again.{AreApart}

-- ---- words

-- the words behind `concretize`
pub record Asked : Type 0 where
  pub repo : List ℕ
  pub settings : List ℕ
  pub database : List ℕ
  pub lock : List ℕ
  pub cert : List ℕ
  pub spec : List (List ℕ)

abbrev pub concretize_words : Asked → List (List ℕ)
concretize_words a = codes "concretize" ∷ a.repo ∷ a.settings ∷ a.database ∷ a.lock ∷ a.cert ∷ a.spec

-- the same words behind `check`, and without the lock file behind `refute`
abbrev pub check_words : Asked → List (List ℕ)
check_words a = codes "check" ∷ a.repo ∷ a.settings ∷ a.database ∷ a.lock ∷ a.cert ∷ a.spec

abbrev pub refute_words : Asked → List (List ℕ)
refute_words a = codes "refute" ∷ a.repo ∷ a.settings ∷ a.database ∷ a.cert ∷ a.spec

abbrev pub spec_in : List (List ℕ) → List ℕ
spec_in [] = []
spec_in (first ∷ more) = joined_words first more

-- the command that they are
abbrev pub command_with : Work → Asked → Command
command_with work a = record {
  work = work;
  repo = a.repo;
  settings = a.settings;
  database = a.database;
  lock = a.lock;
  cert = a.cert;
  spec = spec_in a.spec;
}

-- nothing that is read stands at the path: it is not that of the settings, of the database or of a
-- recipe, and not in the folder of the packages
pub record StandsApart (a : Asked) (path : List ℕ) : Type 0 where
  pub settings : path ≢ a.settings
  pub database : path ≢ a.database
  pub recipes : (name : List ℕ) → path ≢ recipe_path a.repo name
  pub folder : name_below (packages_path a.repo) path ≡ None

-- ---- what a run says of a problem and of its answer, but no clause of it

-- no two nodes of the graph have one hash; the texts of the problem have their forms, as all that
-- were read; and both files have fewer than 2^63 bytes, as all in memory
pub record CanBeChecked (problem : Problem) (graph : Content) (log : List Line) : Type 0 where
  pub apart : AreApart graph
  pub formed : IsFormedProblem problem
  pub short_lock : length (lock_of problem graph) ≤ 2 ^ 63 - 1
  pub short_cert : length (log_text log) ≤ 2 ^ 63 - 1

pub record CanBeRefuted (log : List Line) : Type 0 where
  pub short_cert : length (log_text log) ≤ 2 ^ 63 - 1

-- ---- what the run left

-- an optimal graph with its log, which `check` accepts
pub record IsAcceptedAgain (a : Asked) (files after : Files) : Type 0 where
  pub input : Input
  pub read : ReadsInput files (command_with works.Concretize a) (Ok input)
  pub graph : Content
  pub log : List Line
  pub answer : IsFor input.problem (Best graph log)
  pub lock : get after a.lock ≡ Some (lock_of input.problem graph)
  pub cert : get after a.cert ≡ Some (log_text log)
  pub again : CanBeChecked input.problem graph log → Poses log_verdict after (check_words a) (Ok Accepted)

-- the log that no graph is valid, which `refute` accepts
pub record IsRefutedAgain (a : Asked) (files after : Files) : Type 0 where
  pub input : Input
  pub read : ReadsInput files (command_with works.Concretize a) (Ok input)
  pub log : List Line
  pub answer : IsFor input.problem (Nothing log)
  pub cert : get after a.cert ≡ Some (log_text log)
  pub again : CanBeRefuted log → Poses log_verdict after (refute_words a) (Ok Accepted)
