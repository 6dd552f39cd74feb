-- Stages of reading have an answer, and so have stages one after another.
use Rattle.std.proofs.Common.{refl, ℕ, inl, inr, Result, Ok, Err}
use Rattle.run_answers.specs.Refusals.{in_root}
use Rattle.run_answers.specs.Stages.{InRoot, Is, Then}
use Rattle.run_answers.specs.declared.refusal.Refusal.{Refusal}

-- some answer is right
abbrev pub Answers : {A : Type 0} → (Result A Refusal → Type 0) → Type 0
Answers {A} stage = (r : Result A Refusal) × stage r

-- what is computed is one
pub computed : {A : Type 0} (given : Result A Refusal) → Answers (Is given)
computed given = (given, refl)

module _ {A B : Type 0} (first : Result A Refusal → Type 0) (next : A → Result B Refusal → Type 0) where
  then_by : (x : A) → first (Ok x) → (r : Result B Refusal) → next x r → Answers (Then first next)
  then_by x p (Ok y) q = (Ok y, (x, p, q))
  then_by x p (Err e) q = (Err e, inr (x, p, q))

  first_by : (r : Result A Refusal) → first r → ((x : A) → Answers (next x)) → Answers (Then first next)
  first_by (Ok x) p more = then_by x p (more x).0 (more x).1
  first_by (Err e) p more = (Err e, inl p)

  pub then_answers : Answers first → ((x : A) → Answers (next x)) → Answers (Then first next)
  then_answers some more = first_by some.0 some.1 more

-- the files of a root
pub root_answers : {A : Type 0} (root : ℕ) (stage : Result A Refusal → Type 0) → Answers stage → Answers (InRoot root stage)
root_answers {A} root stage some = by some.0 some.1
  where
    by : (r : Result A Refusal) → stage r → Answers (InRoot root stage)
    by (Ok x) p = (Ok x, p)
    by (Err inner) p = (Err (in_root root inner), (inner, p, refl))
