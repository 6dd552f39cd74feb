-- Where a device fails.
use Rattle.std.proofs.Common.{◌≡◌, subst, sym, ◌∙◌, ℕ, List, Option, Some, None, IfSome, Result, Ok, Err, inl, inr}
use Rattle.outside_desk.specs.Files.{Files, StillTells}
use Rattle.outside_desk.proofs.Tellings.{held_still}
use Rattle.run_input.specs.ReadStop.{ReadStop}
use Rattle.run_input.specs.ReadStop.TheVariants.{Refused, Fault, NoMemory}
use Rattle.run_input.specs.Stops.{Gives}
use Rattle.run_input.specs.Words.{Command}
use Rattle.run_input.specs.Bytes.{FailsAt}
use Rattle.run_input.specs.Inputs.{FailsAtInput, ReadsInput}
use Rattle.run_input.specs.Roots.{RootsOf}
use Rattle.run_input.specs.Work.{Work}
use Rattle.run_input.specs.Work.TheVariants as works
use Rattle.run_input.specs.declared.input.Input.{Input}
use Rattle.run_task.specs.Looks.{FailsAtCheck, FailsAtLook, FailsAtRoots, FailsAtTask, IsCheckPath, IsKeptPath, IsRootPath}
use Rattle.run_task.specs.Problems.{Problem, each_alone}
use Rattle.run_task.specs.Verdicts.{Judges}

-- over the input
pub of_input : (A B : Type 0) (told : Option Files) (command : Command) (stop : ReadStop) → FailsAtInput {A = A} told command (Err stop)
    → FailsAtTask {A = B} told command (Err stop)
of_input A B told command (Refused refusal) there = tt
of_input A B told command (Fault path) there = inl there
of_input A B told command NoMemory there = tt

-- behind the input, where the desk tells its files still
pub of_look : {A : Type 0} (between after : Option Files) (command : Command) (input : Input) (result : Result A ReadStop)
    → StillTells between after
    → IfSome between (λ files. Gives {T = Input} (Ok input) (ReadsInput files command)) → RootsOf command.spec (Ok input.problem.roots)
    → FailsAtLook command.work after command input.problem result → FailsAtTask after command result
of_look between after command input (Ok x) still read roots there = tt
of_look between after command input (Err (Refused refusal)) still read roots there = tt
of_look between after command input (Err (Fault path)) still read roots there = inr (record {
  input = input;
  read = over after (held_still (λ files. Gives {T = Input} (Ok input) (ReadsInput files command)) between after still read);
  roots = roots;
  kept = there;
})
  where
    over : (told : Option Files) → IfSome told (λ files. Gives {T = Input} (Ok input) (ReadsInput files command))
        → IfSome told (λ files. ReadsInput files command (Ok input))
    over None given = tt
    over (Some files) given = given
of_look between after command input (Err NoMemory) still read roots there = tt

-- at the certificate, behind the lock file
pub of_certificate : {A : Type 0} (before : Option Files) (lock cert : List ℕ) (problem : Problem) (numbers : List ℕ)
    (result : Result A ReadStop)
    → IfSome before (λ files. Gives {T = List ℕ} (Ok numbers) (Judges files lock problem)) → FailsAt cert result
    → FailsAtCheck before lock cert problem result
of_certificate before lock cert problem numbers (Ok x) judged there = tt
of_certificate before lock cert problem numbers (Err (Refused refusal)) judged there = tt
of_certificate before lock cert problem numbers (Err (Fault path)) judged there = inr (there, over before judged)
  where
    over : (told : Option Files) → IfSome told (λ files. Gives {T = List ℕ} (Ok numbers) (Judges files lock problem))
        → IfSome told (λ files. (x : List ℕ) × Judges files lock problem (Ok x))
    over None given = tt
    over (Some files) given = (numbers, given)
of_certificate before lock cert problem numbers (Err NoMemory) judged there = tt

-- ---- by the command's work

module _ {A : Type 0} (told : Option Files) (command : Command) (problem : Problem) where
  -- one file alone is looked at
  pub of_file : (work : Work) (file named : List ℕ) (result : Result A ReadStop)
      → ((path : List ℕ) → path ≡ named → IsKeptPath work told command problem path) → command.work ≡ work → file ≡ named
      → FailsAt file result → FailsAtLook command.work told command problem result
  of_file work file named (Ok x) kept is same there = tt
  of_file work file named (Err (Refused refusal)) kept is same there = tt
  of_file work file named (Err (Fault path)) kept is same there =
      subst (λ (w : Work). IsKeptPath w told command problem path) (sym is) (kept path (there ∙ same))
  of_file work file named (Err NoMemory) kept is same there = tt

  -- a lock file, and then its certificate
  pub of_check : (lock cert : List ℕ) (result : Result A ReadStop) → command.work ≡ works.Check → lock ≡ command.lock → cert ≡ command.cert
      → FailsAtCheck told lock cert problem result → FailsAtLook command.work told command problem result
  of_check lock cert (Ok x) is at_lock at_cert there = tt
  of_check lock cert (Err (Refused refusal)) is at_lock at_cert there = tt
  of_check lock cert (Err (Fault path)) is at_lock at_cert there =
      subst (λ (w : Work). IsKeptPath w told command problem path) (sym is)
      (subst (λ (c : List ℕ). IsCheckPath told command.lock c problem path) at_cert
      (subst (λ (l : List ℕ). IsCheckPath told l cert problem path) at_lock there))
  of_check lock cert (Err NoMemory) is at_lock at_cert there = tt

  -- those of all roots
  pub of_roots : (dir : List ℕ) (result : Result A ReadStop) → command.work ≡ works.CheckEach → dir ≡ command.lock
      → FailsAtRoots told dir (each_alone problem) result → FailsAtLook command.work told command problem result
  of_roots dir (Ok x) is same there = tt
  of_roots dir (Err (Refused refusal)) is same there = tt
  of_roots dir (Err (Fault path)) is same there =
      subst (λ (w : Work). IsKeptPath w told command problem path) (sym is)
      (subst (λ (d : List ℕ). IsRootPath told d (each_alone problem) path) same there)
  of_roots dir (Err NoMemory) is same there = tt
