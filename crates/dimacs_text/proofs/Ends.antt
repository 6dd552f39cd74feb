-- How a run ends.
use Rattle.std.proofs.Common.{◌≡◌, refl, sym, ap, ◌∙◌, ℕ, List, Option, Some, None, Ok, Err, subst, inl, inr}
use Rattle.std.specs.Prelude.{IfSome}
use Rattle.run_answers.specs.Exits.{IsAnsweredBy, Spoken}
use Rattle.outside_desk.specs.Causes.{Counts, Rose}
use Rattle.outside_desk.specs.Files.{Files}
use Rattle.run_input.proofs.StageLaws.{IsOne, one_is, one_then}
use Rattle.run_input.specs.Inputs.{ReadsInput}
use Rattle.run_input.specs.ReadStop.TheVariants.{Refused, Fault, NoMemory}
use Rattle.run_input.specs.LockFault.TheVariants as faults
use Rattle.run_input.specs.Stages.{Is}
use Rattle.run_input.specs.Status.{Status}
use Rattle.run_input.specs.Status.TheVariants as statuses
use Rattle.run_input.specs.Stop.{Stop}
use Rattle.run_input.specs.Stop.TheVariants.{Usage, Read, Write}
use Rattle.run_input.specs.Stops.{stop_status}
use Rattle.run_input.specs.WriteStop.TheVariants as writes
use Rattle.run_input.specs.Words.{Command}
use Rattle.dimacs_text.specs.Answers.{Answers, Asks, Posed, Poses, PosesBy, explained, status_of, text_of}
use Rattle.dimacs_text.specs.Attempts.{Attempts, FailsToPut, FailsToRead, FailsToSay, Reports}

-- ---- answers

abbrev pub ReadsOnce : Type 0
ReadsOnce = (files : Files) (command : Command) → IsOne (ReadsInput files command)

some_same : {A : Type 0} (x y : A) → (let T : Type 0 = Option A in let a : T = Some x in let b : T = Some y in a ≡ b) → x ≡ y
some_same x y e = cc

some_not_none : {A B : Type 0} (x : A) → (let T : Type 0 = Option A in let a : T = Some x in let b : T = None in a ≡ b) → B
some_not_none x same = absurd cc

-- a command asks for one text at most, or is due one refusal
one_asked : ReadsOnce → (files : Files) (command : Command) → IsOne (Asks files command)
one_asked one files command =
    one_then (ReadsInput files command) (λ input. Is (Ok (text_of input.problem))) (one files command)
    (λ input. one_is (Ok (text_of input.problem)))

-- words pose one thing at most
one_posed : ReadsOnce → (files : Files) (words : List (List ℕ)) (a b : Posed) → PosesBy files words a → PosesBy files words b → a ≡ b
one_posed one files words None None p q = refl
one_posed one files words None (Some b) none (command, named, asks) = some_not_none command (sym named ∙ none)
one_posed one files words (Some a) None (command, named, asks) none = some_not_none command (sym named ∙ none)
one_posed one files words (Some a) (Some b) (command, named, asks) (other, as_well, asks_too) =
    ap Some (one_asked one files command a b asks
    (subst (λ (c : Command). Asks files c b) (some_same other command (sym as_well ∙ named)) asks_too))

answered_here : (files : Files) (words : List (List ℕ)) (stop : Stop) (out err : Spoken) (faults : ℕ × ℕ) (result : Status)
    → Attempts files (explained words) out.0 out.1 (Err stop) → Reports stop err faults result → Answers files words out err result
answered_here files words Usage out err faults result attempts (inl (is, said, steady)) =
    inl (record { posed = None; poses = attempts.0; has_status = is; said = (attempts.1, said) })
answered_here files words (Read (Refused refusal)) out err faults result attempts (inl (is, said, steady)) =
    inl (record { posed = Some (Err refusal); poses = attempts.0; has_status = is; said = (attempts.1, said) })
answered_here files words (Read (Fault path)) out err faults result attempts (inl (is, said, steady)) = inr (rw is tt)
answered_here files words (Read NoMemory) out err faults result attempts (inl (is, said, steady)) = inr (rw is tt)
answered_here files words (Write (writes.Put path)) out err faults result attempts (inl (is, said, steady)) = inr (rw is tt)
answered_here files words (Write writes.Output) out err faults result attempts (inl (is, said, steady)) = inr (rw is tt)
answered_here files words (Write writes.NoMemory) out err faults result attempts (inl (is, said, steady)) = inr (rw is tt)
answered_here files words stop out err faults result attempts (inr (inl (is, part, rose))) = inr (rw is tt)
answered_here files words stop out err faults result attempts (inr (inr (is, silent))) = inr (rw is tt)

-- an attempt that stopped
pub answered : (before : Option Files) (words : List (List ℕ)) (stop : Stop) (out err : Spoken) (faults : ℕ × ℕ) (result : Status)
    → IfSome before (λ files. Attempts files (explained words) out.0 out.1 (Err stop)) → Reports stop err faults result
    → IfSome before (λ files. Answers files words out err result)
answered None words stop out err faults result attempts reports = tt
answered (Some files) words stop out err faults result attempts reports =
    answered_here files words stop out err faults result attempts reports

-- one that did not
pub told : (before : Option Files) (words : List (List ℕ)) (out err : Spoken)
    → IfSome before (λ files. Attempts files (explained words) out.0 out.1 (Ok tt))
    → err.1 ≡ err.0 → IfSome before (λ files. Answers files words out err statuses.Done)
told None words out err attempts same = tt
told (Some files) words out err attempts same =
    inl (record { posed = Some (Ok attempts.text); poses = attempts.poses; has_status = refl; said = (attempts.said, same) })

-- ---- what is posed is answered

-- no device failed
abbrev Still : ℕ × ℕ → Type 0
Still faults = ¬ Rose faults.0 faults.1

-- a report of a stop, where the sink did not fail
reported : (stop : Stop) (err : Spoken) (faults : ℕ × ℕ) (result : Status) (status : Status) → Reports stop err faults result → Still faults
    → IsAnsweredBy status statuses.NoMemory → (result ≡ stop_status stop → IsAnsweredBy status result)
    → IsAnsweredBy status result
reported stop err faults result status (inl (is, said, steady)) still none by = by is
reported stop err faults result status (inr (inl (is, part, rose))) still none by = absurd (still rose)
reported stop err faults result status (inr (inr (is, silent))) still none by = inr is

settles_here : ReadsOnce → (files : Files) (words : List (List ℕ)) (stop : Stop) (out err : Spoken) (reads says errs : ℕ × ℕ)
    (result : Status)
    → Attempts files (explained words) out.0 out.1 (Err stop) → Counts reads.0 reads.1 (FailsToRead (Err stop))
    → Counts says.0 says.1 (FailsToSay (Err stop))
    → (FailsToPut (Err stop) → ⊥) → Reports stop err errs result → (posed : Posed) → Poses files words posed
    → Still reads → Still says → Still errs → IsAnsweredBy (status_of posed) result
settles_here one files words Usage out err reads says errs result attempts read said put reports posed poses r s e =
    reported Usage err errs result (status_of posed) reports e (inr refl)
    (λ is. inl (subst (λ (p : Posed). result ≡ status_of p) (one_posed one files (explained words) None posed attempts.0 poses) is))
settles_here one files words (Read (Refused refusal)) out err reads says errs result attempts read said put reports posed poses r s e =
    reported (Read (Refused refusal)) err errs result (status_of posed) reports e (inr refl)
    (λ is. inl (subst (λ (p : Posed). result ≡ status_of p)
    (one_posed one files (explained words) (Some (Err refusal)) posed attempts.0 poses) is))
settles_here one files words (Read (Fault path)) out err reads says errs result attempts read said put reports posed poses r s e =
    absurd (r (read.cause tt))
settles_here one files words (Read NoMemory) out err reads says errs result attempts read said put reports posed poses r s e =
    reported (Read NoMemory) err errs result (status_of posed) reports e (inr refl) (λ is. inr is)
settles_here one files words (Write (writes.Put path)) out err reads says errs result attempts read said put reports posed poses r s e =
    absurd (put tt)
settles_here one files words (Write writes.Output) out err reads says errs result attempts read said put reports posed poses r s e =
    absurd (s (said.cause tt))
settles_here one files words (Write writes.NoMemory) out err reads says errs result attempts read said put reports posed poses r s e =
    reported (Write writes.NoMemory) err errs result (status_of posed) reports e (inr refl) (λ is. inr is)

-- an attempt that stopped
pub settles : ReadsOnce → (before : Option Files) (words : List (List ℕ)) (stop : Stop) (out err : Spoken) (reads says errs : ℕ × ℕ)
    (result : Status)
    → IfSome before (λ files. Attempts files (explained words) out.0 out.1 (Err stop)) → Counts reads.0 reads.1 (FailsToRead (Err stop))
    → Counts says.0 says.1 (FailsToSay (Err stop)) → (FailsToPut (Err stop) → ⊥) → Reports stop err errs result
    → IfSome before (λ files. (posed : Posed) → Poses files words posed → ¬ Rose reads.0 reads.1 → ¬ Rose says.0 says.1
    → ¬ Rose errs.0 errs.1 → IsAnsweredBy (status_of posed) result)
settles one None words stop out err reads says errs result attempts read said put reports = tt
settles one (Some files) words stop out err reads says errs result attempts read said put reports =
    settles_here one files words stop out err reads says errs result attempts read said put reports

-- one that did not
pub done : ReadsOnce → (before : Option Files) (words : List (List ℕ)) (out : Spoken) (reads says errs : ℕ × ℕ)
    → IfSome before (λ files. Attempts files (explained words) out.0 out.1 (Ok tt))
    → IfSome before (λ files. (posed : Posed) → Poses files words posed → ¬ Rose reads.0 reads.1 → ¬ Rose says.0 says.1
    → ¬ Rose errs.0 errs.1 → IsAnsweredBy (status_of posed) statuses.Done)
done one None words out reads says errs attempts = tt
done one (Some files) words out reads says errs attempts = λ posed poses r s e.
    inl (subst (λ (p : Posed). statuses.Done ≡ status_of p)
    (one_posed one files (explained words) (Some (Ok attempts.text)) posed attempts.poses poses)
    refl)
