-- How a run that stops is answered.
use Rattle.std.proofs.Common.{◌≡◌, ℕ, List, Option, Some, None, Result, Ok, Err, subst, inl, inr}
use Rattle.std.specs.Prelude.{IfSome}
use Rattle.run_answers.specs.Exits.{IsAnsweredBy, IsRefusalStatus, Says, Spoken}
use Rattle.outside_desk.specs.Causes.{Counts, Rose}
use Rattle.outside_desk.specs.Files.{Files}
use Rattle.run_output.specs.Task.{Task}
use Rattle.run_output.specs.Tasks.{Poses}
use Rattle.run_output.specs.CertificateVerdicts.{no_verdict}
use Rattle.run_output.specs.Certificates.{log_verdict}
use Rattle.run_output.specs.Evidence.{evidence}
use Rattle.run_output.specs.Refusals.{status_of, line_of_refusal}
use Rattle.run_output.specs.Senses.{Sense}
use Rattle.run_output.specs.Stops.{stop_status, stop_line}
use Rattle.concretizer.specs.Attempts.{Attempts, Concludes, StopsAtOnce, FailsToRead, FailsToPut, FailsToSay}
use Rattle.concretizer.specs.Headline.{IsRefused, IsOfInput, Settles, Reports, ReportsWords}
use Rattle.concretizer.specs.Logs.{AreStill}
use Rattle.run_output.specs.declared.answer.Outcome.{Outcome}
use Rattle.run_output.specs.Refusal.{Refusal}
use Rattle.run_output.specs.Status.{Status}
use Rattle.run_output.specs.Status.TheVariants as statuses
use Rattle.run_output.specs.ReadStop.TheVariants.{Refused, Fault, NoMemory}
use Rattle.run_output.specs.WriteStop.TheVariants as writes
use Rattle.run_output.specs.Stop.{Stop}
use Rattle.concretizer.proofs.Stages.{not_refused}
use Rattle.run_output.specs.Stop.TheVariants.{Usage, Read, Write}

-- words name one problem at most, or are due one refusal
abbrev pub PosesOnce : Type 0
PosesOnce = (files : Files) (words : List (List ℕ)) (a b : Result Task Refusal) → Poses log_verdict files words a
    → Poses log_verdict files words b → a ≡ b

-- ---- words that are no command

-- what is reported of words that are no command
pub reports_words : (stop : Stop) (said : Spoken) (faults : ℕ × ℕ) (result : Status)
    → StopsAtOnce (Err stop) → Reports (stop_status stop) (stop_line stop) said faults result → ReportsWords said faults result
reports_words Usage said faults result at_once reports = inl reports
reports_words (Read (Refused given)) said faults result no_refusal reports = absurd no_refusal
reports_words (Read (Fault path)) said faults result no_fault reports = absurd no_fault
reports_words (Read NoMemory) said faults result at_once reports = inr reports
reports_words (Write stop) said faults result no_write reports = absurd no_write

-- ---- answers that a refusal has

abbrev Said : Status → List ℕ → Spoken → Status → Type 0
Said status line said result = (result ≡ status) × Says said line

-- a report that did not fail
report_said : (status : Status) (line : List ℕ) (said : Spoken) (faults : ℕ × ℕ) (result : Status)
    → Reports status line said faults result → IsRefusalStatus result → Said status line said result
report_said status line said faults result (inl (is, line_said, still)) refuses = (is, line_said)
report_said status line said faults result (inr (inl (is, front, rose))) refuses = absurd (rw is at refuses)
report_said status line said faults result (inr (inr (is, silent))) refuses = absurd (rw is at refuses)

refused_here : (sense : Sense) (files : Files) (words : List (List ℕ)) (stop : Stop) (after : Option Files) (out err : Spoken)
    (result : Status)
    → Attempts sense files words after out.0 out.1 (Err stop) → Said (stop_status stop) (stop_line stop) err result → IsRefusalStatus result
    → IsRefused sense files words result after out err
refused_here sense files words Usage after out err result left (is, said) refuses = absurd (rw is at refuses)
refused_here sense files words (Read (Refused refusal)) after out err result (poses, left) (is, said) refuses =
    record { refusal = refusal; read = poses; status = is; unchanged = left.unchanged; output = left.out; errors = said }
refused_here sense files words (Read (Fault path)) after out err result left (is, said) refuses = absurd (rw is at refuses)
refused_here sense files words (Read NoMemory) after out err result left (is, said) refuses = absurd (rw is at refuses)
refused_here sense files words (Write (writes.Put path)) after out err result left (is, said) refuses = absurd (rw is at refuses)
refused_here sense files words (Write writes.Output) after out err result left (is, said) refuses = absurd (rw is at refuses)
refused_here sense files words (Write writes.NoMemory) after out err result left (is, said) refuses = absurd (rw is at refuses)

-- the refusal of an attempt that stopped so
pub refused : (sense : Sense) (before : Option Files) (words : List (List ℕ)) (stop : Stop) (after : Option Files) (out err : Spoken)
    (faults : ℕ × ℕ)
    (result : Status)
    → IfSome before (λ files. Attempts sense files words after out.0 out.1 (Err stop))
    → Reports (stop_status stop) (stop_line stop) err faults result → IsRefusalStatus result
    → IfSome before (λ files. IsRefused sense files words result after out err)
refused sense None words stop after out err faults result left reports refuses = tt
refused sense (Some files) words stop after out err faults result left reports refuses =
    refused_here sense files words stop after out err result left (report_said _ _ err faults result reports refuses) refuses

-- ---- input that nothing refuses

-- a report of want of memory, where the sink did not fail
settles_none : (line : List ℕ) (said : Spoken) (faults : ℕ × ℕ) (result : Status)
    → Reports statuses.NoMemory line said faults result → ¬ Rose faults.0 faults.1 → Settles result
settles_none line said faults result (inl (is, line_said, same)) still = rw is tt
settles_none line said faults result (inr (inl (is, front, rose))) still = absurd (still rose)
settles_none line said faults result (inr (inr (is, silent))) still = rw is tt

-- whose count rose where an attempt failed
pub record AreCounted (stop : Stop) (reads puts says : ℕ × ℕ) : Type 0 where
  pub read : Counts reads.0 reads.1 (FailsToRead (Err stop))
  pub put : Counts puts.0 puts.1 (FailsToPut (Err stop))
  pub said : Counts says.0 says.1 (FailsToSay (Err stop))

settles_here : PosesOnce → (files : Files) (words : List (List ℕ)) (stop : Stop) (after : Option Files) (out err : Spoken)
    (reads puts says errs : ℕ × ℕ) (result : Status)
    → Attempts evidence files words after out.0 out.1 (Err stop) → AreCounted stop reads puts says
    → Reports (stop_status stop) (stop_line stop) err errs result
    → (task : Task) → Poses log_verdict files words (Ok task) → AreStill reads puts says errs → Settles result
settles_here laws files words Usage after out err reads puts says errs result left counts reports task poses still =
    not_refused words poses.0 poses.1 left.0
settles_here laws files words (Read (Refused refusal)) after out err reads puts says errs result left counts reports task poses still =
    absurd (let same : (let T : Type 0 = Result Task Refusal in let l : T = Ok task in let r : T = Err refusal in l ≡ r) =
    laws files words (Ok task) (Err refusal) poses left.0 in cc)
settles_here laws files words (Read (Fault path)) after out err reads puts says errs result left counts reports task poses still =
    absurd (still.read (counts.read.cause tt))
settles_here laws files words (Read NoMemory) after out err reads puts says errs result left counts reports task poses still =
    settles_none _ err errs result reports still.err
settles_here laws files words (Write (writes.Put path)) after out err reads puts says errs result left counts reports task poses still =
    absurd (still.put (counts.put.cause tt))
settles_here laws files words (Write writes.Output) after out err reads puts says errs result left counts reports task poses still =
    absurd (still.said (counts.said.cause tt))
settles_here laws files words (Write writes.NoMemory) after out err reads puts says errs result left counts reports task poses still =
    settles_none _ err errs result reports still.err

-- an attempt that stopped
pub settles : PosesOnce → (before : Option Files) (words : List (List ℕ)) (stop : Stop) (after : Option Files) (out err : Spoken)
    (reads puts says errs : ℕ × ℕ) (result : Status)
    → IfSome before (λ files. Attempts evidence files words after out.0 out.1 (Err stop)) → AreCounted stop reads puts says
    → Reports (stop_status stop) (stop_line stop) err errs result
    → IfSome before (λ files. (task : Task) → Poses log_verdict files words (Ok task) → AreStill reads puts says errs → Settles result)
settles laws None words stop after out err reads puts says errs result left counts reports = tt
settles laws (Some files) words stop after out err reads puts says errs result left counts reports =
    settles_here laws files words stop after out err reads puts says errs result left counts reports

-- an answer
pub settled : (before : Option Files) (words : List (List ℕ)) (reads puts says errs : ℕ × ℕ) (result : Status) → Settles result
    → IfSome before (λ files. (task : Task) → Poses log_verdict files words (Ok task) → AreStill reads puts says errs → Settles result)
settled None words reads puts says errs result settles = tt
settled (Some files) words reads puts says errs result settles = λ task poses still. settles

-- where no certificate is read
abbrev pub NonePosed : Type 0
NonePosed = (files : Files) (words : List (List ℕ)) (posed : Result Task Refusal) → Poses no_verdict files words posed
    → Poses log_verdict files words posed

-- where no certificate is read
pub complete : NonePosed → (before : Option Files) (words : List (List ℕ)) (reads puts says errs : ℕ × ℕ) (result : Status)
    → IfSome before (λ files. (task : Task) → Poses log_verdict files words (Ok task) → AreStill reads puts says errs → Settles result)
    → IfSome before (λ files. (task : Task) → Poses no_verdict files words (Ok task) → ¬ Rose reads.0 reads.1 → ¬ Rose puts.0 puts.1
    → ¬ Rose says.0 says.1 → ¬ Rose errs.0 errs.1 → Settles result)
complete laws None words reads puts says errs result settles = tt
complete laws (Some files) words reads puts says errs result settles = λ task poses read put said late.
    settles task (laws files words (Ok task) poses) (record { read = read; put = put; said = said; err = late })

-- ---- input that is refused

-- a report, where the sink did not fail
reported : (status : Status) (line : List ℕ) (said : Spoken) (faults : ℕ × ℕ) (result : Status)
    → Reports status line said faults result → ¬ Rose faults.0 faults.1 → IsAnsweredBy status result
reported status line said faults result (inl (is, line_said, same)) still = inl is
reported status line said faults result (inr (inl (is, front, rose))) still = absurd (still rose)
reported status line said faults result (inr (inr (is, silent))) still = inr is

-- a report of want of memory, where the sink did not fail
none_reported : (status : Status) (line : List ℕ) (said : Spoken) (faults : ℕ × ℕ) (result : Status)
    → Reports statuses.NoMemory line said faults result → ¬ Rose faults.0 faults.1 → IsAnsweredBy status result
none_reported status line said faults result (inl (is, line_said, same)) still = inr is
none_reported status line said faults result (inr (inl (is, front, rose))) still = absurd (still rose)
none_reported status line said faults result (inr (inr (is, silent))) still = inr is

not_both : {A : Type 0} → PosesOnce → (files : Files) (words : List (List ℕ)) (task : Task) (refusal : Refusal)
    → Poses log_verdict files words (Ok task) → Poses log_verdict files words (Err refusal) → A
not_both laws files words task refusal p q =
    absurd (let same : (let T : Type 0 = Result Task Refusal in let l : T = Ok task in let r : T = Err refusal in l ≡ r) =
    laws files words (Ok task) (Err refusal) p q in cc)

same_refusal : PosesOnce → (files : Files) (words : List (List ℕ)) (a b : Refusal)
    → Poses log_verdict files words (Err a) → Poses log_verdict files words (Err b) → a ≡ b
same_refusal laws files words a b p q =
    let same : (let T : Type 0 = Result Task Refusal in let l : T = Err a in let r : T = Err b in l ≡ r) =
    laws files words (Err a) (Err b) p q in cc

due_here : PosesOnce → (files : Files) (words : List (List ℕ)) (stop : Stop) (after : Option Files) (out err : Spoken)
    (reads puts says errs : ℕ × ℕ) (result : Status)
    → Attempts evidence files words after out.0 out.1 (Err stop) → AreCounted stop reads puts says
    → Reports (stop_status stop) (stop_line stop) err errs result
    → (refusal : Refusal) → Poses log_verdict files words (Err refusal) → AreStill reads puts says errs
    → IsAnsweredBy (status_of refusal) result
due_here laws files words Usage after out err reads puts says errs result left counts reports refusal poses still =
    not_refused words poses.0 poses.1 left.0
due_here laws files words (Read (Refused given)) after out err reads puts says errs result left counts reports refusal poses still =
    subst (λ (r : Refusal). IsAnsweredBy (status_of r) result) (same_refusal laws files words given refusal left.0 poses)
    (reported (status_of given) (line_of_refusal given) err errs result reports still.err)
due_here laws files words (Read (Fault path)) after out err reads puts says errs result left counts reports refusal poses still =
    absurd (still.read (counts.read.cause tt))
due_here laws files words (Read NoMemory) after out err reads puts says errs result left counts reports refusal poses still =
    none_reported (status_of refusal) _ err errs result reports still.err
due_here laws files words (Write (writes.Put path)) after out err reads puts says errs result left counts reports refusal poses still =
    absurd (still.put (counts.put.cause tt))
due_here laws files words (Write writes.Output) after out err reads puts says errs result left counts reports refusal poses still =
    absurd (still.said (counts.said.cause tt))
due_here laws files words (Write writes.NoMemory) after out err reads puts says errs result left counts reports refusal poses still =
    none_reported (status_of refusal) _ err errs result reports still.err

-- a refusal is due where an attempt stopped
pub due : PosesOnce → (before : Option Files) (words : List (List ℕ)) (stop : Stop) (after : Option Files) (out err : Spoken)
    (reads puts says errs : ℕ × ℕ) (result : Status)
    → IfSome before (λ files. Attempts evidence files words after out.0 out.1 (Err stop)) → AreCounted stop reads puts says
    → Reports (stop_status stop) (stop_line stop) err errs result
    → IfSome before (λ files. (refusal : Refusal) → Poses log_verdict files words (Err refusal) → AreStill reads puts says errs
    → IsAnsweredBy (status_of refusal) result)
due laws None words stop after out err reads puts says errs result left counts reports = tt
due laws (Some files) words stop after out err reads puts says errs result left counts reports =
    due_here laws files words stop after out err reads puts says errs result left counts reports

-- no refusal is due where an answer was written
pub written : PosesOnce → (before : Option Files) (words : List (List ℕ)) (outcome : Outcome) (after : Option Files) (out : Spoken)
    (reads puts says errs : ℕ × ℕ) (result : Status)
    → IfSome before (λ files. Attempts evidence files words after out.0 out.1 (Ok outcome))
    → IfSome before (λ files. (refusal : Refusal) → Poses log_verdict files words (Err refusal) → AreStill reads puts says errs
    → IsAnsweredBy (status_of refusal) result)
written laws None words outcome after out reads puts says errs result left = tt
written laws (Some files) words outcome after out reads puts says errs result left = λ refusal poses still.
    not_both laws files words left.task refusal left.read poses

-- where no certificate is read
pub refusals_due : NonePosed → (before : Option Files) (words : List (List ℕ)) (reads puts says errs : ℕ × ℕ) (result : Status)
    → IfSome before (λ files. (refusal : Refusal) → Poses log_verdict files words (Err refusal) → AreStill reads puts says errs
    → IsAnsweredBy (status_of refusal) result)
    → IfSome before (λ files. (refusal : Refusal) → Poses no_verdict files words (Err refusal) → ¬ Rose reads.0 reads.1
    → ¬ Rose puts.0 puts.1
    → ¬ Rose says.0 says.1 → ¬ Rose errs.0 errs.1 → IsAnsweredBy (status_of refusal) result)
refusals_due laws None words reads puts says errs result answered = tt
refusals_due laws (Some files) words reads puts says errs result answered = λ refusal poses read put said late.
    answered refusal (laws files words (Err refusal) poses) (record { read = read; put = put; said = said; err = late })

-- ---- counts

-- a stop that is reported as the input's own
concluded : (stop : Stop) → IsOfInput (stop_status stop) → Concludes (Err stop)
concluded Usage of = tt
concluded (Read (Refused refusal)) of = tt
concluded (Read (Fault path)) of = absurd of
concluded (Read NoMemory) of = absurd of
concluded (Write (writes.Put path)) of = absurd of
concluded (Write writes.Output) of = absurd of
concluded (Write writes.NoMemory) of = absurd of

-- no device failed
pub steady : (stop : Stop) (err : Spoken) (reads puts says errs : ℕ × ℕ) (result : Status)
    → (Concludes (Err stop) → (reads.1 ≡ reads.0) × (puts.1 ≡ puts.0) × (says.1 ≡ says.0))
    → Reports (stop_status stop) (stop_line stop) err errs result → IsOfInput result
    → (reads.1 ≡ reads.0) × (puts.1 ≡ puts.0) × (says.1 ≡ says.0) × (errs.1 ≡ errs.0)
steady stop err reads puts says errs result kept (inl (is, line_said, same)) of =
    let all = kept (concluded stop (subst IsOfInput is of)) in (all.0, all.1, all.2, same)
steady stop err reads puts says errs result kept (inr (inl (is, front, rose))) of = absurd (rw is at of)
steady stop err reads puts says errs result kept (inr (inr (is, silent))) of = absurd (rw is at of)
