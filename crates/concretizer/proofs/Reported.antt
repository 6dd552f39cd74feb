-- What is reported of a run that stops, by its status.
use Rattle.std.proofs.Common.{◌≡◌, sym, subst, ◌∙◌, ℕ, List, Option, None, Err, inl, inr, ◌⊎◌}
use Rattle.run_answers.specs.Exits.{IsRefusalStatus, IsSilent, Says, SaysFront, Spoken}
use Rattle.outside_desk.specs.Causes.{Rose}
use Rattle.outside_desk.specs.Files.{Files}
use Rattle.run_output.specs.LockFault.{LockFault}
use Rattle.run_output.specs.LockFault.TheVariants as faults
use Rattle.run_output.specs.Refusals.{lock_status, status_of}
use Rattle.run_output.specs.Stops.{stop_status, stop_line}
use Rattle.run_output.specs.Words.{command_of}
use Rattle.run_output.specs.Refusal.{Refusal}
use Rattle.run_output.specs.Refusal.TheVariants as refusals
use Rattle.run_output.specs.Status.{Status}
use Rattle.run_output.specs.Status.TheVariants as statuses
use Rattle.run_output.specs.ReadStop.TheVariants.{Refused, Fault, NoMemory}
use Rattle.run_output.specs.WriteStop.TheVariants as writes
use Rattle.run_output.specs.Stop.{Stop}
use Rattle.run_output.specs.Stop.TheVariants.{Usage, Read, Write}
use Rattle.concretizer.specs.Attempts.{Follows}
use Rattle.concretizer.specs.Headline.{Reports}

-- ---- the status of a refusal

lock_refuses : (fault : LockFault) → IsRefusalStatus (lock_status fault)
lock_refuses faults.NotJson = tt
lock_refuses (faults.WrongKind at) = tt
lock_refuses (faults.TwiceNamed name) = tt
lock_refuses (faults.HashDiffers written computed) = tt
lock_refuses (faults.Dangling parent child) = tt
lock_refuses faults.OutOfMemory = tt

-- the status of each refusal
pub refuses : (refusal : Refusal) → IsRefusalStatus (status_of refusal)
refuses refusals.DatabaseTooLarge = tt
refuses (refusals.BadDatabase fault) = tt
refuses (refusals.MissingInput path) = tt
refuses refusals.SettingsTooLarge = tt
refuses (refusals.BadSettings fault) = tt
refuses refusals.TooManyRecipes = tt
refuses (refusals.RecipeTooLarge name) = tt
refuses refusals.RecipesTooLarge = tt
refuses (refusals.BadRecipe name fault) = tt
refuses (refusals.NameClash name) = tt
refuses refusals.SpecsTooLarge = tt
refuses (refusals.BadSpecs fault) = tt
refuses refusals.TooManyRoots = tt
refuses (refusals.UnknownRoot name) = tt
refuses (refusals.VirtualRoot name) = tt
refuses (refusals.WrongPlatform platform) = tt
refuses refusals.TooManyPackages = tt
refuses refusals.LockTooLarge = tt
refuses (refusals.BadLock fault) = lock_refuses fault
refuses refusals.OtherRoots = tt
refuses (refusals.BrokenRule rule node number) = tt
refuses refusals.CertificateTooLarge = tt
refuses (refusals.BadCertificate number fault) = tt
refuses (refusals.InRoot root fault) = tt

-- a status that no refusal has
pub unlike : (refusal : Refusal) (result status : Status) → result ≡ status_of refusal → result ≡ status → (IsRefusalStatus status → ⊥) → ⊥
unlike refusal result status is other not = not (subst IsRefusalStatus (sym is ∙ other) (refuses refusal))

-- ---- a report, by its three cases

-- what follows from each of the three follows from any report
pub by_report : {A : Type 0} (status : Status) (line : List ℕ) (said : Spoken) (errs : ℕ × ℕ) (result : Status)
    → Reports status line said errs result
    → (result ≡ status → Says said line → A) → (result ≡ statuses.WriteFault → SaysFront said line × Rose errs.0 errs.1 → A)
    → (result ≡ statuses.NoMemory → IsSilent said → A) → A
by_report status line said errs result (inl (is, says, still)) right late none = right is says
by_report status line said errs result (inr (inl (is, front, rose))) right late none = late is (front, rose)
by_report status line said errs result (inr (inr (is, silent))) right late none = none is silent

-- ---- a run that stopped has no answer

-- the statuses of an answer
abbrev pub IsAnswer : Status → Type 0
IsAnswer statuses.Done = Unit {0}
IsAnswer statuses.Unsatisfiable = Unit {0}
IsAnswer statuses.Undecided = Unit {0}
IsAnswer statuses.Stale = Unit {0}
IsAnswer other = ⊥

no_answer : (status : Status) → IsRefusalStatus status → IsAnswer status → ⊥
no_answer statuses.Done refuses answers = refuses
no_answer statuses.Unsatisfiable refuses answers = refuses
no_answer statuses.Undecided refuses answers = refuses
no_answer statuses.Stale refuses answers = refuses
no_answer statuses.Usage refuses answers = answers
no_answer statuses.BadInput refuses answers = answers
no_answer statuses.TooLarge refuses answers = answers
no_answer statuses.Refused refuses answers = answers
no_answer statuses.ReadFault refuses answers = answers
no_answer statuses.WriteFault refuses answers = answers
no_answer statuses.NoMemory refuses answers = answers

stops : (stop : Stop) → IsAnswer (stop_status stop) → ⊥
stops Usage answers = answers
stops (Read (Refused refusal)) answers = no_answer (status_of refusal) (refuses refusal) answers
stops (Read (Fault path)) answers = answers
stops (Read NoMemory) answers = answers
stops (Write (writes.Put path)) answers = answers
stops (Write writes.Output) answers = answers
stops (Write writes.NoMemory) answers = answers

-- its status is none of an answer
pub unanswered : (stop : Stop) (answer : Status) → IsAnswer answer → (err : Spoken) (errs : ℕ × ℕ) (result : Status)
    → Reports (stop_status stop) (stop_line stop) err errs result → result ≡ answer → ⊥
unanswered stop answer answers err errs result reports is =
    by_report _ _ err errs result reports (λ same says. stops stop (subst IsAnswer (sym is ∙ same) answers))
    (λ late rose. subst IsAnswer (sym is ∙ late) answers) (λ none silent. subst IsAnswer (sym is ∙ none) answers)

-- ---- Usage

-- the statuses of all but wrong words
abbrev IsOther : Status → Type 0
IsOther statuses.Usage = ⊥
IsOther other = Unit {0}

no_other : (status : Status) → IsRefusalStatus status → IsOther status
no_other statuses.Done refuses = absurd refuses
no_other statuses.Unsatisfiable refuses = absurd refuses
no_other statuses.Undecided refuses = absurd refuses
no_other statuses.Stale refuses = absurd refuses
no_other statuses.Usage refuses = refuses
no_other statuses.BadInput refuses = tt
no_other statuses.TooLarge refuses = tt
no_other statuses.Refused refuses = tt
no_other statuses.ReadFault refuses = absurd refuses
no_other statuses.WriteFault refuses = absurd refuses
no_other statuses.NoMemory refuses = absurd refuses

stops_by_words : (told : Option Files) (words : List (List ℕ)) (stop : Stop) → Follows told words (Err stop) → (command_of words ≡ None)
    ⊎ IsOther (stop_status stop)
stops_by_words told words Usage follows = inl follows
stops_by_words told words (Read (Refused refusal)) follows = inr (no_other (status_of refusal) (refuses refusal))
stops_by_words told words (Read (Fault path)) follows = inr tt
stops_by_words told words (Read NoMemory) follows = inr tt
stops_by_words told words (Write (writes.Put path)) follows = inr tt
stops_by_words told words (Write writes.Output) follows = inr tt
stops_by_words told words (Write writes.NoMemory) follows = inr tt

no_usage : (result status : Status) → IsOther status → result ≡ status → result ≡ statuses.Usage → ⊥
no_usage result status other same is = subst IsOther (sym same ∙ is) other

-- only words that are no command are Usage
pub usage : (told : Option Files) (words : List (List ℕ)) (stop : Stop) (err : Spoken) (errs : ℕ × ℕ) (result : Status)
    → Reports (stop_status stop) (stop_line stop) err errs result → Follows told words (Err stop)
    → result ≡ statuses.Usage → command_of words ≡ None
usage told words stop err errs result reports follows is =
    elim (stops_by_words told words stop follows) [
      | inl none ↦ none
      | inr other ↦ by_report _ _ err errs result reports (λ same says. absurd (no_usage result _ other same is))
          (λ late rose. absurd (no_usage result statuses.WriteFault tt late is))
          (λ none silent. absurd (no_usage result statuses.NoMemory tt none is))
    ]
