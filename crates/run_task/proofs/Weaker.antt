-- What is posed by some verdicts on certificates is posed by others that allow more.
use Rattle.std.proofs.Common.{sym, subst, ℕ, ◌+◌, [], ◌∷◌, Bool, true, false, List, Option, Some, None, Result, Ok, Err, inl, inr}
use Rattle.outside_desk.specs.Files.{Files}
use Rattle.run_input.specs.Stages.{Is, Then, InRoot}
use Rattle.run_input.specs.Refusal.{Refusal}
use Rattle.run_input.specs.Words.{Command}
use Rattle.run_input.specs.Work.{Work}
use Rattle.run_input.specs.Work.TheVariants as works
use Rattle.run_input.specs.Inputs.{ReadsInput}
use Rattle.run_input.specs.declared.input.Input.{Input}
use Rattle.run_task.specs.Problems.{Problem, each_alone}
use Rattle.run_task.specs.Places.{cert_at, lock_at}
use Rattle.run_task.specs.Verdicts.{Judges}
use Rattle.run_task.specs.CertificateVerdicts.{CertificateVerdicts, MayBeSaid, any_verdict, no_verdict}
use Rattle.run_task.specs.Certificates.{certified_at, log_verdict}
use Rattle.run_task.specs.Tasks.{AcceptanceOf, CheckOf, ChecksOf, OverUnless, Poses, TaskBy, files_for, is_search}
use Rattle.run_task.specs.declared.task.Task.{Task}
use Rattle.run_task.specs.declared.task.Task.TheVariants as tasks

-- a stage that gives more, and then one that gives more
then_more : {A B : Type 0} (first more : Result A Refusal → Type 0) (next later : A → Result B Refusal → Type 0)
    → ((r : Result A Refusal) → first r → more r) → ((x : A) (r : Result B Refusal) → next x r → later x r)
    → (r : Result B Refusal) → Then first next r → Then more later r
then_more first more next later f g (Ok y) (x, here, there) = (x, f (Ok x) here, g x (Ok y) there)
then_more first more next later f g (Err refusal) (inl here) = inl (f (Err refusal) here)
then_more first more next later f g (Err refusal) (inr (x, here, there)) = inr (x, f (Ok x) here, g x (Err refusal) there)

abbrev Allows : CertificateVerdicts → CertificateVerdicts → Type 0
Allows some more = (files : Files) (path : List ℕ) (problem : Problem) (numbers : Option (List ℕ)) (said : Result (Unit {0}) Refusal)
    → some files path problem numbers said → more files path problem numbers said

module _ (some more : CertificateVerdicts) (allows : Allows some more) where
  accepts : (files : Files) (cert : List ℕ) (problem : Problem) (numbers : Option (List ℕ)) (r : Result Task Refusal)
      → AcceptanceOf some files cert problem numbers r → AcceptanceOf more files cert problem numbers r
  accepts files cert problem numbers =
      then_more (some files cert problem numbers) (more files cert problem numbers) (λ done. Is (Ok tasks.Accepted))
      (λ done. Is (Ok tasks.Accepted))
      (allows files cert problem numbers) (λ done r is. is)

  checks : (files : Files) (lock cert : List ℕ) (problem : Problem) (r : Result Task Refusal)
      → CheckOf some files lock cert problem r → CheckOf more files lock cert problem r
  checks files lock cert problem =
      then_more (Judges files lock problem) (Judges files lock problem) (λ numbers. AcceptanceOf some files cert problem (Some numbers))
      (λ numbers. AcceptanceOf more files cert problem (Some numbers)) (λ s judged. judged)
      (λ numbers. accepts files cert problem (Some numbers))

  checks_in : (root : ℕ) (files : Files) (lock cert : List ℕ) (problem : Problem) (r : Result Task Refusal)
      → InRoot root (CheckOf some files lock cert problem) r → InRoot root (CheckOf more files lock cert problem) r
  checks_in root files lock cert problem (Ok task) is = checks files lock cert problem (Ok task) is
  checks_in root files lock cert problem (Err refusal) (inner, is, same) = (inner, checks files lock cert problem (Err inner) is, same)

  checks_all : (files : Files) (dir : List ℕ) (root : ℕ) (problems : List Problem) (r : Result Task Refusal)
      → ChecksOf some files dir root problems r → ChecksOf more files dir root problems r
  checks_all files dir root [] = λ r is. is
  checks_all files dir root (problem ∷ others) =
      then_more (InRoot root (CheckOf some files (lock_at dir root) (cert_at dir root) problem))
      (InRoot root (CheckOf more files (lock_at dir root) (cert_at dir root) problem)) (λ done. ChecksOf some files dir (root + 1) others)
      (λ done. ChecksOf more files dir (root + 1) others) (checks_in root files (lock_at dir root) (cert_at dir root) problem)
      (λ done. checks_all files dir (root + 1) others)

  by_work : (work : Work) (files : Files) (command : Command) (input : Input) (r : Result Task Refusal)
      → TaskBy some work files command input r → TaskBy more work files command input r
  by_work works.Concretize files command input r is = is
  by_work works.Judge files command input r is = is
  by_work works.Check files command input r is = checks files command.lock command.cert input.problem r is
  by_work works.Refute files command input r is = accepts files command.cert input.problem None r is
  by_work works.Each files command input r is = is
  by_work works.CheckEach files command input r is = checks_all files command.lock 0 (each_alone input.problem) r is
  by_work works.Explain files command input r is = is
  by_work works.Reasons files command input r is = is
  by_work works.Fresh files command input r is = is
  by_work works.Find files command input r is = is
  by_work works.Plan files command input r is = is
  by_work (works.Trial packages seed) files command input r is = is

  over : (search : Bool) (files : Files) (command : Command) (r : Result Task Refusal) → OverUnless some search files command r
      → OverUnless more search files command r
  over true files command r is = is
  over false files command r is =
      then_more (ReadsInput files command) (ReadsInput files command) (TaskBy some command.work files command)
      (TaskBy more command.work files command)
      (λ s read. read) (by_work command.work files command) r is

  poses : (files : Files) (words : List (List ℕ)) (r : Result Task Refusal) → Poses some files words r → Poses more files words r
  poses files words r (command, is, named) =
      (command, is, over (is_search command.work) (files_for command.work files) command r named)

-- each verdict of a log is some verdict
pub any_posed : ((files : Files) (path : List ℕ) (problem : Problem) (numbers : Option (List ℕ))
    → MayBeSaid path (certified_at files path problem numbers))
    → (files : Files) (words : List (List ℕ)) (r : Result Task Refusal) → Poses log_verdict files words r → Poses any_verdict files words r
any_posed may = poses log_verdict any_verdict
    (λ files path problem numbers said is. subst (MayBeSaid path) (sym is) (may files path problem numbers))

-- where no certificate is read, nothing depends on verdicts
pub none_posed : (files : Files) (words : List (List ℕ)) (r : Result Task Refusal) → Poses no_verdict files words r
    → Poses log_verdict files words r
none_posed = poses no_verdict log_verdict (λ files path problem numbers said none. absurd none)
