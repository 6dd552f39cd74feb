-- What puts leave of the files.
use Rattle.std.proofs.Common.{◌≡◌, ◌⊎◌, inl, inr, sym, ap, subst, ◌∙◌, ℕ, true, List, Option, Result, Ok, Err}
use Rattle.std.specs.Prelude.{OnOk}
use Rattle.std.specs.Result.{IsErrAnd}
use Rattle.outside_desk.specs.Files.{Files, with_file, MayHold}
use Rattle.graph_core.specs.Graphs.{Content}
use Rattle.proof_log.specs.declared.line.Line.{Line}
use Rattle.run_task.specs.Answers.{log_of}
use Rattle.run_task.specs.Answer.{Answer}
use Rattle.run_task.specs.Answer.TheVariants as answers
use Rattle.run_output.specs.Locks.{HasReadableLock, PutsReadable, lock_of}
use Rattle.run_task.specs.Words.{is_dash_path}
use Rattle.run_task.specs.Problems.{Problem}
use Rattle.run_task.specs.WriteStop.{WriteStop}
use Rattle.run_task.specs.WriteStop.TheVariants.{Put, Output, NoMemory}
use Rattle.run_output.specs.Answers.{Puts, PutsAnswer, PutsCert}
use Rattle.run_output.specs.Put.{HoldsWhole, MayCert, with_cert, with_cert_by}

-- a stop that was handed on
pub carried : {A : Type 0} (stop : WriteStop) (result : Result A WriteStop) → IsErrAnd result (λ given. given ≡ stop) → result ≡ Err stop
carried stop (Ok x) h = absurd h
carried stop (Err given) h = ap Err h

-- what holds at any end holds at a right one
pub on_ok : {A E P : Type 0} (result : Result A E) → P → OnOk result P
on_ok (Ok x) p = p
on_ok (Err e) p = tt

-- the lock file of an answer whose files were put
pub readable : (problem : Problem) (answer : Answer) (done : Unit {0}) → PutsReadable problem answer (Ok done)
    → HasReadableLock problem answer
readable problem (answers.Best graph log) done read = read
readable problem (answers.Nothing log) done read = tt
readable problem (answers.Undecided log) done read = tt

-- ---- the certificate

-- none is put
pub no_cert : (cert : List ℕ) (log : List Line) (before after : Option Files) → is_dash_path cert ≡ true → after ≡ before
    → after ≡ with_cert cert log before
no_cert cert log before after dash same = same ∙ sym (ap (λ b. with_cert_by b cert log before) dash)

-- ---- the certificate, and then the lock file

-- the first put stopped
pub first_stopped : (lock cert : List ℕ) (problem : Problem) (answer : Answer) (stop : WriteStop) (before after : Option Files)
    → PutsCert cert (log_of answer) before after (Err stop) → PutsAnswer lock cert problem answer before after (Err stop)
first_stopped lock cert problem answer (Put at) before after left = inl left
first_stopped lock cert problem answer Output before after left = left
first_stopped lock cert problem answer NoMemory before after left = tt

-- the lock file was not put
pub first_held : (lock cert : List ℕ) (problem : Problem) (answer : Answer) (before after : Option Files)
    → (after ≡ before) ⊎ MayCert cert (log_of answer) before after
    → (after ≡ before) ⊎ HoldsWhole lock cert problem answer before after
first_held lock cert problem answer before after (inl same) = inl same
first_held lock cert problem answer before after (inr held) = inr (inl held)

-- the second put
pub second_put : (lock cert : List ℕ) (problem : Problem) (graph : Content) (log : List Line) (text : List ℕ)
    (before between after : Option Files) (result : Result (Unit {0}) WriteStop) → between ≡ with_cert cert log before
    → text ≡ lock_of problem graph → Puts lock text between after result
    → PutsAnswer lock cert problem (answers.Best graph log) before after result
second_put lock cert problem graph log text before between after (Ok done) first is left =
    left ∙ ap (with_file between lock) is ∙ ap (λ (m : Option Files). with_file m lock (lock_of problem graph)) first
second_put lock cert problem graph log text before between after (Err (Put at)) first is (same, held) =
    inr (
      same,
      subst (λ (m : Option Files). MayHold m after lock (lock_of problem graph)) first
          (subst (λ (t : List ℕ). MayHold between after lock t) is held),
    )
second_put lock cert problem graph log text before between after (Err Output) first is left = absurd left
second_put lock cert problem graph log text before between after (Err NoMemory) first is left = tt

-- both were put, or the first alone
pub second_held : (lock cert : List ℕ) (problem : Problem) (graph : Content) (log : List Line) (text : List ℕ)
    (before between after : Option Files) → between ≡ with_cert cert log before → text ≡ lock_of problem graph
    → MayHold between after lock text
    → (after ≡ before) ⊎ HoldsWhole lock cert problem (answers.Best graph log) before after
second_held lock cert problem graph log text before between after first is held =
    inr (inr (subst (λ (m : Option Files). MayHold m after lock (lock_of problem graph)) first
    (subst (λ (t : List ℕ). MayHold between after lock t) is held)))
