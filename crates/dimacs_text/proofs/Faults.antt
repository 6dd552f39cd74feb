-- What a run leaves where a device failed, or memory ran out.
use Rattle.std.proofs.Common.{◌≡◌, ◌⊎◌, refl, sym, ◌∙◌, ℕ, List, Option, Some, None, Err, subst, inl, inr}
use Rattle.std.specs.Prelude.{IfSome}
use Rattle.run_answers.specs.Exits.{IsRefusalStatus, IsSilent, Says, SaysFront, Spoken}
use Rattle.outside_desk.specs.Causes.{Counts, Rose}
use Rattle.outside_desk.specs.Files.{Files}
use Rattle.run_input.specs.ReadStop.TheVariants.{Refused, Fault, NoMemory}
use Rattle.run_input.specs.Refusal.{Refusal}
use Rattle.run_input.specs.Refusal.TheVariants as refusals
use Rattle.run_input.specs.LockFault.{LockFault}
use Rattle.run_input.specs.LockFault.TheVariants as faults
use Rattle.run_input.specs.Refusals as lines
use Rattle.run_input.specs.Status.{Status}
use Rattle.run_input.specs.Status.TheVariants as statuses
use Rattle.run_input.specs.Stop.{Stop}
use Rattle.run_input.specs.Stop.TheVariants.{Usage, Read, Write}
use Rattle.run_input.specs.Stops.{no_memory_line, stop_status}
use Rattle.run_input.specs.WriteStop.TheVariants as writes
use Rattle.dimacs_text.specs.Answers.{IsFault}
use Rattle.dimacs_text.specs.Attempts.{Attempts, Concludes, FailsToPut, FailsToRead, FailsToSay, Follows, Reports, StopsBefore, line_of}
use Rattle.dimacs_text.specs.Faults.{IsFront, IsOutOfMemory, IsReadFault, IsStopped, IsWriteFault}

-- ---- the status of a refusal

lock_refuses : (fault : LockFault) → IsRefusalStatus (lines.lock_status fault)
lock_refuses faults.NotJson = tt
lock_refuses (faults.WrongKind at) = tt
lock_refuses (faults.TwiceNamed name) = tt
lock_refuses (faults.HashDiffers written computed) = tt
lock_refuses (faults.Dangling parent child) = tt
lock_refuses faults.OutOfMemory = tt

refuses : (refusal : Refusal) → IsRefusalStatus (lines.status_of refusal)
refuses refusals.DatabaseTooLarge = tt
refuses (refusals.BadDatabase fault) = tt
refuses (refusals.MissingInput path) = tt
refuses refusals.SettingsTooLarge = tt
refuses (refusals.BadSettings fault) = tt
refuses refusals.TooManyRecipes = tt
refuses (refusals.RecipeTooLarge name) = tt
refuses refusals.RecipesTooLarge = tt
refuses (refusals.BadRecipe name fault) = tt
refuses (refusals.NameClash name) = tt
refuses refusals.SpecsTooLarge = tt
refuses (refusals.BadSpecs fault) = tt
refuses refusals.TooManyRoots = tt
refuses (refusals.UnknownRoot name) = tt
refuses (refusals.VirtualRoot name) = tt
refuses (refusals.WrongPlatform platform) = tt
refuses refusals.TooManyPackages = tt
refuses refusals.LockTooLarge = tt
refuses (refusals.BadLock fault) = lock_refuses fault
refuses refusals.OtherRoots = tt
refuses (refusals.BrokenRule rule node number) = tt
refuses refusals.CertificateTooLarge = tt
refuses (refusals.BadCertificate number fault) = tt
refuses (refusals.InRoot root fault) = tt

unlike : (refusal : Refusal) (result status : Status) → result ≡ lines.status_of refusal → result ≡ status
    → (IsRefusalStatus status → ⊥) → ⊥
unlike refusal result status is other not = not (subst IsRefusalStatus (sym is ∙ other) (refuses refusal))

-- ---- a report, by its three cases

by_report : {A : Type 0} (stop : Stop) (err : Spoken) (errs : ℕ × ℕ) (result : Status) → Reports stop err errs result
    → (result ≡ stop_status stop → Says err (line_of stop) → A)
    → (result ≡ statuses.WriteFault → SaysFront err (line_of stop) × Rose errs.0 errs.1 → A)
    → (result ≡ statuses.NoMemory → IsSilent err → A) → A
by_report stop err errs result (inl (is, says, still)) right late none = right is says
by_report stop err errs result (inr (inl (is, part, rose))) right late none = late is (part, rose)
by_report stop err errs result (inr (inr (is, silent))) right late none = none is silent

-- ---- which stop has which status

not_read : (stop : Stop) → (FailsToRead (Err stop) → ⊥) → stop_status stop ≡ statuses.ReadFault → ⊥
not_read Usage never is = let same : statuses.Usage ≡ statuses.ReadFault = is in cc
not_read (Read (Refused refusal)) never is = unlike refusal (stop_status (Read (Refused refusal))) statuses.ReadFault refl is (λ h. h)
not_read (Read (Fault path)) never is = never tt
not_read (Read NoMemory) never is = let same : statuses.NoMemory ≡ statuses.ReadFault = is in cc
not_read (Write (writes.Put path)) never is = let same : statuses.WriteFault ≡ statuses.ReadFault = is in cc
not_read (Write writes.Output) never is = let same : statuses.WriteFault ≡ statuses.ReadFault = is in cc
not_read (Write writes.NoMemory) never is = let same : statuses.NoMemory ≡ statuses.ReadFault = is in cc

not_said : (stop : Stop) → (FailsToPut (Err stop) → ⊥) → (FailsToSay (Err stop) → ⊥) → stop_status stop ≡ statuses.WriteFault → ⊥
not_said Usage put never is = let same : statuses.Usage ≡ statuses.WriteFault = is in cc
not_said (Read (Refused refusal)) put never is = unlike refusal (stop_status (Read (Refused refusal))) statuses.WriteFault refl is (λ h. h)
not_said (Read (Fault path)) put never is = let same : statuses.ReadFault ≡ statuses.WriteFault = is in cc
not_said (Read NoMemory) put never is = let same : statuses.NoMemory ≡ statuses.WriteFault = is in cc
not_said (Write (writes.Put path)) put never is = put tt
not_said (Write writes.Output) put never is = never tt
not_said (Write writes.NoMemory) put never is = let same : statuses.NoMemory ≡ statuses.WriteFault = is in cc

-- ---- ReadFault

module _ (told : Option Files) (words : List (List ℕ)) (out err : Spoken) (errs : ℕ × ℕ) (result : Status) where
  no_fault : {A : Type 0} (stop : Stop) → (FailsToRead (Err stop) → ⊥) → Reports stop err errs result → result ≡ statuses.ReadFault → A
  no_fault stop never reports is =
      absurd (by_report stop err errs result reports (λ same says. not_read stop never (sym same ∙ is))
      (λ late rose. let no : statuses.WriteFault ≡ statuses.ReadFault = sym late ∙ is in cc)
      (λ none silent. let no : statuses.NoMemory ≡ statuses.ReadFault = sym none ∙ is in cc))

  -- ReadFault is answered only where the reading failed, and its path was said
  pub read_fault : (stop : Stop) (reads : ℕ × ℕ) → Reports stop err errs result → Follows told words (Err stop)
      → (StopsBefore (Err stop) → out.1 ≡ out.0) → Counts reads.0 reads.1 (FailsToRead (Err stop)) → result ≡ statuses.ReadFault
      → IsReadFault told words reads out err
  read_fault Usage reads reports follows unsaid read is = no_fault Usage (λ h. h) reports is
  read_fault (Read (Refused refusal)) reads reports follows unsaid read is = no_fault (Read (Refused refusal)) (λ h. h) reports is
  read_fault (Read (Fault path)) reads reports follows unsaid read is =
      by_report (Read (Fault path)) err errs result reports
      (λ same says. record { path = path; read = follows; rose = read.cause tt; output = unsaid tt; errors = says })
      (λ late rose. absurd (let no : statuses.WriteFault ≡ statuses.ReadFault = sym late ∙ is in cc))
      (λ none silent. absurd (let no : statuses.NoMemory ≡ statuses.ReadFault = sym none ∙ is in cc))
  read_fault (Read NoMemory) reads reports follows unsaid read is = no_fault (Read NoMemory) (λ h. h) reports is
  read_fault (Write stop) reads reports follows unsaid read is = no_fault (Write stop) (λ h. h) reports is

-- ---- WriteFault and NoMemory

-- nothing was said of the text, or the sink failed
silent_or_rose : (stop : Stop) (says : ℕ × ℕ) (out : Spoken) → (StopsBefore (Err stop) → out.1 ≡ out.0)
    → Counts says.0 says.1 (FailsToSay (Err stop)) → IsSilent out ⊎ Rose says.0 says.1
silent_or_rose Usage says out unsaid said = inl (unsaid tt)
silent_or_rose (Read stop) says out unsaid said = inl (unsaid tt)
silent_or_rose (Write (writes.Put path)) says out unsaid said = inl (unsaid tt)
silent_or_rose (Write writes.Output) says out unsaid said = inr (said.cause tt)
silent_or_rose (Write writes.NoMemory) says out unsaid said = inl (unsaid tt)

-- what a sink that failed leaves
front : (told : Option Files) (words : List (List ℕ)) (out : Spoken)
    → IfSome told (λ files. Attempts files words out.0 out.1 (Err (Write writes.Output))) → IfSome told (λ files. IsFront files words out)
front None words out left = tt
front (Some files) words out left = record { text = left.text; poses = left.poses; said = left.said }

module _ (told : Option Files) (words : List (List ℕ)) (says : ℕ × ℕ) (out err : Spoken) (errs : ℕ × ℕ) (result : Status) where
  abbrev stopped : (stop : Stop) → IfSome told (λ files. Attempts files words out.0 out.1 (Err stop))
      → (StopsBefore (Err stop) → out.1 ≡ out.0) → Counts says.0 says.1 (FailsToSay (Err stop)) → IsStopped told words says out
  stopped stop left unsaid said = record { stop = stop; left = left; output = silent_or_rose stop says out unsaid said }

  -- the report failed, of a stop that is none of the sink of the answer
  late_fault : (s : IsStopped told words says out) → (stop_status s.stop ≡ statuses.WriteFault → ⊥) → Reports s.stop err errs result
      → result ≡ statuses.WriteFault → IsWriteFault told words says errs out err
  late_fault s other reports is =
      by_report s.stop err errs result reports (λ same says. absurd (other (sym same ∙ is)))
      (λ late failed. inr (record { stopped = s; rose = failed.1; errors = failed.0 }))
      (λ none silent. absurd (let no : statuses.NoMemory ≡ statuses.WriteFault = sym none ∙ is in cc))

  -- WriteFault is answered only where one of the two sinks failed
  pub write_fault : (stop : Stop) → Reports stop err errs result → IfSome told (λ files. Attempts files words out.0 out.1 (Err stop))
      → (StopsBefore (Err stop) → out.1 ≡ out.0) → Counts says.0 says.1 (FailsToSay (Err stop)) → (FailsToPut (Err stop) → ⊥)
      → result ≡ statuses.WriteFault → IsWriteFault told words says errs out err
  write_fault Usage reports left unsaid said put is = late_fault (stopped Usage left unsaid said) (not_said Usage put (λ h. h)) reports is
  write_fault (Read stop) reports left unsaid said put is =
      late_fault (stopped (Read stop) left unsaid said) (not_said (Read stop) put (λ h. h)) reports is
  write_fault (Write (writes.Put path)) reports left unsaid said put is = absurd (put tt)
  write_fault (Write writes.Output) reports left unsaid said put is =
      by_report (Write writes.Output) err errs result reports
      (λ same told_so. inl (record { left = front told words out left; rose = said.cause tt; errors = told_so }))
      (λ late failed. inr (record { stopped = stopped (Write writes.Output) left unsaid said; rose = failed.1; errors = failed.0 }))
      (λ none silent. absurd (let no : statuses.NoMemory ≡ statuses.WriteFault = sym none ∙ is in cc))
  write_fault (Write writes.NoMemory) reports left unsaid said put is =
      late_fault (stopped (Write writes.NoMemory) left unsaid said) (not_said (Write writes.NoMemory) put (λ h. h)) reports is

  no_memory_said : (stop : Stop) → stop_status stop ≡ statuses.NoMemory → Says err (line_of stop) → Says err no_memory_line
  no_memory_said Usage is says = absurd (let no : statuses.Usage ≡ statuses.NoMemory = is in cc)
  no_memory_said (Read (Refused refusal)) is says =
      absurd (unlike refusal (stop_status (Read (Refused refusal))) statuses.NoMemory refl is (λ h. h))
  no_memory_said (Read (Fault path)) is says = absurd (let no : statuses.ReadFault ≡ statuses.NoMemory = is in cc)
  no_memory_said (Read NoMemory) is says = says
  no_memory_said (Write (writes.Put path)) is says = absurd (let no : statuses.WriteFault ≡ statuses.NoMemory = is in cc)
  no_memory_said (Write writes.Output) is says = absurd (let no : statuses.WriteFault ≡ statuses.NoMemory = is in cc)
  no_memory_said (Write writes.NoMemory) is says = says

  -- NoMemory leaves what a run that stopped leaves, and that was said, or nothing
  pub no_memory : (stop : Stop) → Reports stop err errs result → IfSome told (λ files. Attempts files words out.0 out.1 (Err stop))
      → (StopsBefore (Err stop) → out.1 ≡ out.0) → Counts says.0 says.1 (FailsToSay (Err stop)) → result ≡ statuses.NoMemory
      → IsOutOfMemory told words says out err
  no_memory stop reports left unsaid said is =
      by_report stop err errs result reports
      (λ same told_so. record { stopped = stopped stop left unsaid said; errors = inr (no_memory_said stop (sym same ∙ is) told_so) })
      (λ late failed. absurd (let no : statuses.WriteFault ≡ statuses.NoMemory = sym late ∙ is in cc))
      (λ none silent. record { stopped = stopped stop left unsaid said; errors = inl silent })

-- ---- no device failed

concluded : (stop : Stop) → ¬ IsFault (stop_status stop) → Concludes (Err stop)
concluded Usage never = tt
concluded (Read (Refused refusal)) never = tt
concluded (Read (Fault path)) never = absurd (never tt)
concluded (Read NoMemory) never = absurd (never tt)
concluded (Write (writes.Put path)) never = absurd (never tt)
concluded (Write writes.Output) never = absurd (never tt)
concluded (Write writes.NoMemory) never = absurd (never tt)

-- where the answer is no fault, no count of faults rose
pub steady : (stop : Stop) (err : Spoken) (reads says errs : ℕ × ℕ) (result : Status)
    → (Concludes (Err stop) → (reads.1 ≡ reads.0) × (says.1 ≡ says.0)) → Reports stop err errs result → ¬ IsFault result
    → (reads.1 ≡ reads.0) × (says.1 ≡ says.0) × (errs.1 ≡ errs.0)
steady stop err reads says errs result kept (inl (is, said, same)) never =
    let all = kept (concluded stop (subst (λ (s : Status). ¬ IsFault s) is never)) in (all.0, all.1, same)
steady stop err reads says errs result kept (inr (inl (is, part, rose))) never = absurd (never (rw is tt))
steady stop err reads says errs result kept (inr (inr (is, silent))) never = absurd (never (rw is tt))
