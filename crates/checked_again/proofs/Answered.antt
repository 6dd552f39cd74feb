-- What a run answers that poses that a certificate is right.
use Rattle.std.proofs.Common.{◌≡◌, inl, inr, refl, subst, ℕ, List, Option, Some, Result, Ok}
use Rattle.std.specs.Prelude.{◌⊎◌}
use Rattle.outside_desk.specs.Files.{Files}
use Rattle.run_output.specs.Answers.{HasBetter, HasNone, HasSpent}
use Rattle.run_output.specs.Certificates.{log_verdict}
use Rattle.run_output.specs.Evidence.{evidence}
use Rattle.run_output.specs.Exits.{Spoken}
use Rattle.run_output.specs.Refusal.{Refusal}
use Rattle.run_output.specs.Status.{Status}
use Rattle.run_output.specs.Status.TheVariants as statuses
use Rattle.run_output.specs.Task.{Task}
use Rattle.run_output.specs.Task.TheVariants as tasks
use Rattle.run_output.specs.Tasks.{Poses}
use Rattle.run_output.specs.Told.{IsTold}
use Rattle.run_output.specs.Words.{cert_path, lock_path}
use Rattle.run_output.specs.declared.answer.Outcome.{Outcome}
use Rattle.run_output.specs.declared.answer.Outcome.TheVariants as outcomes
use Rattle.concretizer.specs.Headline.{Settles}
use Rattle.concretizer.specs.Logs.{AreStill, IsLogged, IsShownByLogs}

-- words pose one thing at most
abbrev pub PosesOne : Type 0
PosesOne = (files : Files) (words : List (List ℕ)) (a b : Result Task Refusal) → Poses log_verdict files words a
    → Poses log_verdict files words b → a ≡ b

ok_task : (x y : Task) → (let T : Type 0 = Result Task Refusal in let a : T = Ok x in let b : T = Ok y in a ≡ b) → x ≡ y
ok_task x y e = cc

module _ (one : PosesOne) (files : Files) (words : List (List ℕ)) (posed : Poses log_verdict files words (Ok tasks.Accepted))
    (after : Option Files) (out : Spoken) where
  same : (task : Task) → Poses log_verdict files words (Ok task) → task ≡ tasks.Accepted
  same task other = ok_task task tasks.Accepted (one files words (Ok task) (Ok tasks.Accepted) other posed)

  -- of it nothing but a yes is said
  never : (outcome : Outcome) → (outcome ≡ outcomes.Solved → ⊥)
      → IsTold evidence tasks.Accepted outcome (Some files) after out.0 out.1 → ⊥
  never outcome wrong told = wrong told.tells.0

  module _ (puts says errs : ℕ × ℕ) (err : Spoken) where
    settled : (answer : Status) → Settles answer → IsShownByLogs answer words (Some files, after) puts says errs out err
        → (answer ≡ statuses.Done) ⊎ (answer ≡ statuses.NoMemory)
    settled statuses.Done is shown = inl refl
    settled statuses.NoMemory is shown = inr refl
    settled statuses.Unsatisfiable is shown =
        absurd (never outcomes.Unsolved (λ e. absurd cc) (subst (λ (task : Task).
        HasNone evidence (lock_path words) (cert_path words) task (Some files) after out.0 out.1) (same shown.task shown.read) shown.none))
    settled statuses.Undecided is shown =
        absurd (never outcomes.Undecided (λ e. absurd cc) (subst (λ (task : Task).
        HasSpent evidence (lock_path words) (cert_path words) task (Some files) after out.0 out.1)
        (same shown.task shown.read) shown.spent))
    settled statuses.Stale is shown =
        absurd (never outcomes.Stale (λ e. absurd cc) (subst (λ (task : Task).
        HasBetter evidence task (Some files) after out.0 out.1) (same shown.task shown.read) shown.better))
    settled other is shown = absurd is

-- so it answers Done, or memory ran out
pub answered : PosesOne → (files : Files) (words : List (List ℕ)) (after : Option Files) (reads puts says errs : ℕ × ℕ) (out err : Spoken)
    (answer : Status) → Poses log_verdict files words (Ok tasks.Accepted)
    → IsLogged words (Some files, after) reads puts says errs out err answer → AreStill reads puts says errs
    → (answer ≡ statuses.Done) ⊎ (answer ≡ statuses.NoMemory)
answered one files words after reads puts says errs out err answer posed logged still =
    settled one files words posed after out puts says errs err answer (logged.complete tasks.Accepted posed still) logged.answered
