-- The words name one task at most.
use Rattle.std.proofs.Common.{◌≡◌, sym, subst, ◌∙◌, ℕ, ◌+◌, Bool, true, false, List, [], ◌∷◌, Option, Some, None, Result, Ok, Err}
use Rattle.outside_desk.specs.Files.{Files}
use Rattle.run_task.specs.Problems.{Problem, each_alone}
use Rattle.run_task.specs.Places.{cert_at, lock_at}
use Rattle.run_input.specs.Stages.{Is, InRoot}
use Rattle.run_input.proofs.StageLaws.{IsOne, one_is, one_then}
use Rattle.run_input.specs.Refusal.{Refusal}
use Rattle.run_input.specs.Words.{Command}
use Rattle.run_input.specs.Work.{Work}
use Rattle.run_input.specs.Work.TheVariants as works
use Rattle.run_input.specs.Inputs.{ReadsInput, Seeks}
use Rattle.run_input.specs.declared.input.Input.{Input}
use Rattle.run_task.specs.Verdicts.{GraphAt, Judges}
use Rattle.run_task.specs.Certificates.{certified_at, log_verdict}
use Rattle.run_task.specs.Tasks.{AcceptanceOf, CheckOf, ChecksOf, OverUnless, TaskBy, Named, Poses, files_for, is_search}
use Rattle.run_task.specs.declared.task.Task.{Task}
use Rattle.run_task.specs.declared.task.Task.TheVariants as tasks

abbrev OneVerdict : Type 0
OneVerdict = (files : Files) (path : List ℕ) (problem : Problem) → IsOne (Judges files path problem)

one_acceptance : (files : Files) (cert : List ℕ) (problem : Problem) (numbers : Option (List ℕ))
    → IsOne (AcceptanceOf log_verdict files cert problem numbers)
one_acceptance files cert problem numbers =
    one_then (Is (certified_at files cert problem numbers)) (λ done. Is (Ok tasks.Accepted))
    (one_is (certified_at files cert problem numbers))
    (λ done. one_is (Ok tasks.Accepted))

-- of a lock file there is one graph at most
abbrev OneGraph : Type 0
OneGraph = (files : Files) (path : List ℕ) (problem : Problem) → IsOne (GraphAt files path problem)

-- a refusal of the files of a root, which says which root
one_in_root : {A : Type 0} (root : ℕ) (stage : Result A Refusal → Type 0) → IsOne stage → IsOne (InRoot root stage)
one_in_root root stage one (Ok x) (Ok y) here there = one (Ok x) (Ok y) here there
one_in_root root stage one (Ok x) (Err r) here (inner, there, same) = absurd (let e = one (Ok x) (Err inner) here there in cc)
one_in_root root stage one (Err r) (Ok y) (inner, here, same) there = absurd (let e = one (Err inner) (Ok y) here there in cc)
one_in_root root stage one (Err r) (Err q) (inner, here, same) (other, there, too) =
    let e = one (Err inner) (Err other) here there in cc

one_check : OneVerdict → (files : Files) (lock cert : List ℕ) (problem : Problem) → IsOne (CheckOf log_verdict files lock cert problem)
one_check one_verdict files lock cert problem =
    one_then (Judges files lock problem) (λ numbers. AcceptanceOf log_verdict files cert problem (Some numbers))
    (one_verdict files lock problem) (λ numbers. one_acceptance files cert problem (Some numbers))

-- all roots, each by itself
one_checks : OneVerdict → (files : Files) (dir : List ℕ) (root : ℕ) (problems : List Problem)
    → IsOne (ChecksOf log_verdict files dir root problems)
one_checks one_verdict files dir root [] = one_is (Ok tasks.Accepted)
one_checks one_verdict files dir root (problem ∷ more) =
    one_then (InRoot root (CheckOf log_verdict files (lock_at dir root) (cert_at dir root) problem))
    (λ done. ChecksOf log_verdict files dir (root + 1) more)
    (one_in_root root (CheckOf log_verdict files (lock_at dir root) (cert_at dir root) problem)
    (one_check one_verdict files (lock_at dir root) (cert_at dir root) problem))
    (λ done. one_checks one_verdict files dir (root + 1) more)

one_by : OneVerdict → OneGraph → (work : Work) (files : Files) (command : Command) (input : Input)
    → IsOne (TaskBy log_verdict work files command input)
one_by one_verdict one_graph works.Concretize files command input = one_is (Ok (tasks.Solve input))
one_by one_verdict one_graph works.Judge files command input =
    one_then (Judges files command.lock input.problem) (λ numbers. Is (Ok (tasks.Report numbers)))
    (one_verdict files command.lock input.problem) (λ numbers. one_is (Ok (tasks.Report numbers)))
one_by one_verdict one_graph works.Check files command input =
    one_then (Judges files command.lock input.problem) (λ numbers. AcceptanceOf log_verdict files command.cert input.problem (Some numbers))
    (one_verdict files command.lock input.problem) (λ numbers. one_acceptance files command.cert input.problem (Some numbers))
one_by one_verdict one_graph works.Fresh files command input =
    one_then (Judges files command.lock input.problem) (λ numbers. Is (Ok (tasks.Compare input numbers)))
    (one_verdict files command.lock input.problem) (λ numbers. one_is (Ok (tasks.Compare input numbers)))
one_by one_verdict one_graph works.Plan files command input =
    one_then (GraphAt files command.lock input.problem) (λ graph. Is (Ok (tasks.Plan graph)))
    (one_graph files command.lock input.problem) (λ graph. one_is (Ok (tasks.Plan graph)))
one_by one_verdict one_graph works.Find files command input = λ a b one other. absurd one
one_by one_verdict one_graph works.Refute files command input = one_acceptance files command.cert input.problem None
one_by one_verdict one_graph works.Each files command input = one_is (Ok (tasks.Each input))
one_by one_verdict one_graph works.CheckEach files command input = one_checks one_verdict files command.lock 0 (each_alone input.problem)
one_by one_verdict one_graph works.Explain files command input = one_is (Ok (tasks.Explain input))
one_by one_verdict one_graph works.Reasons files command input = one_is (Ok (tasks.Reasons input))
one_by one_verdict one_graph (works.Trial packages seed) files command input = one_is (Ok (tasks.Try input))

some_same : {A : Type 0} (x y : A) → (let T : Type 0 = Option A in let a : T = Some x in let b : T = Some y in a ≡ b) → x ≡ y
some_same x y e = cc

module _ (one_read : (files : Files) (command : Command) → IsOne (ReadsInput files command))
    (one_query : (files : Files) (command : Command) → IsOne (Seeks files command)) (one_verdict : OneVerdict) (one_graph : OneGraph) where
  one_over : (search : Bool) (files : Files) (command : Command) → IsOne (OverUnless log_verdict search files command)
  one_over true files command =
      one_then (Seeks files command) (λ query. Is (Ok (tasks.Find query))) (one_query files command)
      (λ query. one_is (Ok (tasks.Find query)))
  one_over false files command =
      one_then (ReadsInput files command) (TaskBy log_verdict command.work files command) (one_read files command)
      (one_by one_verdict one_graph command.work files command)

  one_named : (files : Files) (command : Command) → IsOne (Named log_verdict files command)
  one_named files command = one_over (is_search command.work) (files_for command.work files) command

  -- the words are one command
  pub one_posed : (files : Files) (words : List (List ℕ)) (a b : Result Task Refusal) → Poses log_verdict files words a
      → Poses log_verdict files words b → a ≡ b
  one_posed files words a b (command, is, named) (other, as_well, named_too) =
      one_named files command a b named
      (subst (λ (c : Command). Named log_verdict files c b) (some_same other command (sym as_well ∙ is)) named_too)
