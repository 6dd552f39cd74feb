-- Faults of devices, where a run stops.
use Rattle.std.proofs.Common.{◌≡◌, refl, sym, ◌∙◌, ℕ, List, Option, Some, None, Err, inl, inr, ◌⊎◌}
use Rattle.std.specs.Prelude.{IfSome}
use Rattle.run_answers.specs.Exits.{IsSilent, Says, Spoken}
use Rattle.outside_desk.specs.Causes.{Counts, Rose}
use Rattle.outside_desk.specs.Files.{Files}
use Rattle.run_output.specs.Refusals.{status_of}
use Rattle.run_output.specs.Senses.{Sense}
use Rattle.run_output.specs.Stops.{no_memory_line, stop_status, stop_line}
use Rattle.run_output.specs.Status.{Status}
use Rattle.run_output.specs.Status.TheVariants as statuses
use Rattle.run_output.specs.ReadStop.TheVariants.{Refused, Fault, NoMemory}
use Rattle.run_output.specs.WriteStop.TheVariants as writes
use Rattle.run_output.specs.Stop.{Stop}
use Rattle.run_output.specs.Stop.TheVariants.{Usage, Read, Write}
use Rattle.concretizer.specs.Attempts.{Attempts, Follows, StopsBefore, FailsToRead, FailsToPut, FailsToSay}
use Rattle.concretizer.specs.Headline.{IsOutOfMemory, IsOutputFault, IsPutFault, IsReadFault, IsReportFault, IsStopped, LeavesAll, LeavesPut, Reports}
use Rattle.concretizer.proofs.Reported.{by_report, unlike}

-- ---- ReadFault

-- ReadFault is answered only where the reading failed, and its path was said
pub read_fault : (words : List (List ℕ)) (stop : Stop) (reads : ℕ × ℕ) (files : Option Files × Option Files) (out err : Spoken) (errs : ℕ
    × ℕ) (result : Status)
    → Reports (stop_status stop) (stop_line stop) err errs result → Follows files.0 words (Err stop)
    → (FailsToRead (Err stop) → files.1 ≡ files.0) → (StopsBefore (Err stop) → out.1 ≡ out.0)
    → Counts reads.0 reads.1 (FailsToRead (Err stop))
    → result ≡ statuses.ReadFault → IsReadFault words reads files out err
read_fault words Usage reads files out err errs result reports follows unread unsaid counts is =
    by_report _ _ err errs result reports (λ same says. absurd (let no : statuses.Usage ≡ statuses.ReadFault = sym same ∙ is in cc))
    (λ late rose. absurd (let no : statuses.WriteFault ≡ statuses.ReadFault = sym late ∙ is in cc))
    (λ none silent. absurd (let no : statuses.NoMemory ≡ statuses.ReadFault = sym none ∙ is in cc))
read_fault words (Read (Refused refusal)) reads files out err errs result reports follows unread unsaid counts is =
    by_report _ _ err errs result reports (λ same says. absurd (unlike refusal result statuses.ReadFault same is (λ h. h)))
    (λ late rose. absurd (let no : statuses.WriteFault ≡ statuses.ReadFault = sym late ∙ is in cc))
    (λ none silent. absurd (let no : statuses.NoMemory ≡ statuses.ReadFault = sym none ∙ is in cc))
read_fault words (Read (Fault path)) reads files out err errs result reports follows unread unsaid counts is =
    by_report _ _ err errs result reports
    (λ same says. record {
      path = path;
      read = follows;
      rose = counts.cause tt;
      unchanged = unread tt;
      output =
          unsaid tt;
      errors = says;
    })
    (λ late rose. absurd (let no : statuses.WriteFault ≡ statuses.ReadFault = sym late ∙ is in cc))
    (λ none silent. absurd (let no : statuses.NoMemory ≡ statuses.ReadFault = sym none ∙ is in cc))
read_fault words (Read NoMemory) reads files out err errs result reports follows unread unsaid counts is =
    by_report _ _ err errs result reports (λ same says. absurd (let no : statuses.NoMemory ≡ statuses.ReadFault = sym same ∙ is in cc))
    (λ late rose. absurd (let no : statuses.WriteFault ≡ statuses.ReadFault = sym late ∙ is in cc))
    (λ none silent. absurd (let no : statuses.NoMemory ≡ statuses.ReadFault = sym none ∙ is in cc))
read_fault words (Write (writes.Put path)) reads files out err errs result reports follows unread unsaid counts is =
    by_report _ _ err errs result reports (λ same says. absurd (let no : statuses.WriteFault ≡ statuses.ReadFault = sym same ∙ is in cc))
    (λ late rose. absurd (let no : statuses.WriteFault ≡ statuses.ReadFault = sym late ∙ is in cc))
    (λ none silent. absurd (let no : statuses.NoMemory ≡ statuses.ReadFault = sym none ∙ is in cc))
read_fault words (Write writes.Output) reads files out err errs result reports follows unread unsaid counts is =
    by_report _ _ err errs result reports (λ same says. absurd (let no : statuses.WriteFault ≡ statuses.ReadFault = sym same ∙ is in cc))
    (λ late rose. absurd (let no : statuses.WriteFault ≡ statuses.ReadFault = sym late ∙ is in cc))
    (λ none silent. absurd (let no : statuses.NoMemory ≡ statuses.ReadFault = sym none ∙ is in cc))
read_fault words (Write writes.NoMemory) reads files out err errs result reports follows unread unsaid counts is =
    by_report _ _ err errs result reports (λ same says. absurd (let no : statuses.NoMemory ≡ statuses.ReadFault = sym same ∙ is in cc))
    (λ late rose. absurd (let no : statuses.WriteFault ≡ statuses.ReadFault = sym late ∙ is in cc))
    (λ none silent. absurd (let no : statuses.NoMemory ≡ statuses.ReadFault = sym none ∙ is in cc))

-- ---- WriteFault

-- what a sink that failed leaves
untold : (sense : Sense) (before after : Option Files) (words : List (List ℕ)) (out : Spoken)
    → IfSome before (λ files. Attempts sense files words after out.0 out.1 (Err (Write writes.Output)))
    → IfSome before (λ files. LeavesAll sense files words after out)
untold sense None after words out outcome = tt
untold sense (Some files) after words out outcome = record { task = outcome.task; read = outcome.read; left = outcome.left }

-- what a put that failed leaves
half_left : (sense : Sense) (path : List ℕ) (before after : Option Files) (words : List (List ℕ)) (out_before out_after : Option (List ℕ))
    → IfSome before (λ files. Attempts sense files words after out_before out_after (Err (Write (writes.Put path))))
    → IfSome before (λ files. LeavesPut sense files words path after)
half_left sense path None after words out_before out_after outcome = tt
half_left sense path (Some files) after words out_before out_after outcome =
    record { task = outcome.task; read = outcome.read; half = outcome.left.0 }

-- nothing was said of an answer, or its sink failed
silent_or_rose : (stop : Stop) (says : ℕ × ℕ) (out : Spoken) → (StopsBefore (Err stop) → out.1 ≡ out.0)
    → Counts says.0 says.1 (FailsToSay (Err stop)) → IsSilent out ⊎ Rose says.0 says.1
silent_or_rose Usage says out unsaid said = inl (unsaid tt)
silent_or_rose (Read stop) says out unsaid said = inl (unsaid tt)
silent_or_rose (Write (writes.Put path)) says out unsaid said = inl (unsaid tt)
silent_or_rose (Write writes.Output) says out unsaid said = inr (said.cause tt)
silent_or_rose (Write writes.NoMemory) says out unsaid said = inl (unsaid tt)

-- why a run stopped, and what that leaves
abbrev stopped : (sense : Sense) (words : List (List ℕ)) (stop : Stop) (says : ℕ × ℕ) (files : Option Files × Option Files) (out : Spoken)
    → Follows files.0 words (Err stop) → IfSome files.0 (λ before. Attempts sense before words files.1 out.0 out.1 (Err stop))
    → (StopsBefore (Err stop) → out.1 ≡ out.0) → Counts says.0 says.1 (FailsToSay (Err stop)) → IsStopped sense words files says out
stopped sense words stop says files out follows outcome unsaid said =
    record { stop = stop; follows = follows; left = outcome; output = silent_or_rose stop says out unsaid said }

-- what a report leaves that failed, of a stop whose status is not WriteFault
late : (sense : Sense) (words : List (List ℕ)) (puts says : ℕ × ℕ) (files : Option Files × Option Files) (out err : Spoken) (errs : ℕ × ℕ)
    (result : Status)
    → (stopped : IsStopped sense words files says out) → (stop_status stopped.stop ≡ statuses.WriteFault → ⊥)
    → Reports (stop_status stopped.stop) (stop_line stopped.stop) err errs result → result ≡ statuses.WriteFault
    → IsPutFault sense words files puts out err
    ⊎ (IsOutputFault sense words files says out err ⊎ IsReportFault sense words files says errs out err)
late sense words puts says files out err errs result stopped other reports is =
    by_report _ _ err errs result reports (λ same told. absurd (other (sym same ∙ is)))
    (λ same failed. inr (inr (record { stopped = stopped; rose = failed.1; errors = failed.0 })))
    (λ none silent. absurd (let no : statuses.NoMemory ≡ statuses.WriteFault = sym none ∙ is in cc))

-- a put or a sink failed
pub write_fault : (sense : Sense) (words : List (List ℕ)) (stop : Stop) (puts says : ℕ × ℕ) (files : Option Files × Option Files)
    (out err : Spoken)
    (errs : ℕ × ℕ) (result : Status)
    → Reports (stop_status stop) (stop_line stop) err errs result → Follows files.0 words (Err stop)
    → IfSome files.0 (λ before. Attempts sense before words files.1 out.0 out.1 (Err stop))
    → (StopsBefore (Err stop) → out.1 ≡ out.0) → Counts puts.0 puts.1 (FailsToPut (Err stop)) → Counts says.0 says.1 (FailsToSay (Err stop))
    → result ≡ statuses.WriteFault
    → IsPutFault sense words files puts out err
    ⊎ (IsOutputFault sense words files says out err ⊎ IsReportFault sense words files says errs out err)
write_fault sense words Usage puts says files out err errs result reports follows outcome unsaid put said is =
    late sense words puts says files out err errs result (stopped sense words Usage says files out follows outcome unsaid said)
    (λ no. let same : statuses.Usage ≡ statuses.WriteFault = no in cc) reports is
write_fault sense words (Read (Refused refusal)) puts says files out err errs result reports follows outcome unsaid put said is =
    late sense words puts says files out err errs result
    (stopped sense words (Read (Refused refusal)) says files out follows outcome unsaid said)
    (λ no. unlike refusal (status_of refusal) statuses.WriteFault refl no (λ h. h)) reports is
write_fault sense words (Read (Fault path)) puts says files out err errs result reports follows outcome unsaid put said is =
    late sense words puts says files out err errs result
    (stopped sense words (Read (Fault path)) says files out follows outcome unsaid said)
    (λ no. let same : statuses.ReadFault ≡ statuses.WriteFault = no in cc) reports is
write_fault sense words (Read NoMemory) puts says files out err errs result reports follows outcome unsaid put said is =
    late sense words puts says files out err errs result (stopped sense words (Read NoMemory) says files out follows outcome unsaid said)
    (λ no. let same : statuses.NoMemory ≡ statuses.WriteFault = no in cc) reports is
write_fault sense words (Write (writes.Put path)) puts says files out err errs result reports follows outcome unsaid put said is =
    by_report _ _ err errs result reports
    (λ same told. inl (record {
      path = path;
      asked = follows.0;
      put = follows.1;
      left = half_left sense path files.0 files.1 words out.0 out.1 outcome;
      rose = put.cause tt;
      output = unsaid tt;
      errors = told;
    }))
    (λ same failed. inr (inr (record {
      stopped = stopped sense words (Write (writes.Put path)) says files out follows outcome unsaid said;
      rose = failed.1;
      errors = failed.0;
    })))
    (λ none silent. absurd (let no : statuses.NoMemory ≡ statuses.WriteFault = sym none ∙ is in cc))
write_fault sense words (Write writes.Output) puts says files out err errs result reports follows outcome unsaid put said is =
    by_report _ _ err errs result reports
    (λ same told. inr (inl (record {
      asked = follows;
      left = untold sense files.0 files.1 words out outcome;
      rose = said.cause tt;
      errors = told;
    })))
    (λ same failed. inr (inr (record {
      stopped = stopped sense words (Write writes.Output) says files out follows outcome unsaid said;
      rose = failed.1;
      errors = failed.0;
    })))
    (λ none silent. absurd (let no : statuses.NoMemory ≡ statuses.WriteFault = sym none ∙ is in cc))
write_fault sense words (Write writes.NoMemory) puts says files out err errs result reports follows outcome unsaid put said is =
    late sense words puts says files out err errs result
    (stopped sense words (Write writes.NoMemory) says files out follows outcome unsaid said)
    (λ no. let same : statuses.NoMemory ≡ statuses.WriteFault = no in cc) reports is

-- ---- NoMemory

no_memory_said : (stop : Stop) (err : Spoken) → stop_status stop ≡ statuses.NoMemory → Says err (stop_line stop) → Says err no_memory_line
no_memory_said Usage err is says = absurd (let no : statuses.Usage ≡ statuses.NoMemory = is in cc)
no_memory_said (Read (Refused refusal)) err is says = absurd (unlike refusal (status_of refusal) statuses.NoMemory refl is (λ h. h))
no_memory_said (Read (Fault path)) err is says = absurd (let no : statuses.ReadFault ≡ statuses.NoMemory = is in cc)
no_memory_said (Read NoMemory) err is says = says
no_memory_said (Write (writes.Put path)) err is says = absurd (let no : statuses.WriteFault ≡ statuses.NoMemory = is in cc)
no_memory_said (Write writes.Output) err is says = absurd (let no : statuses.WriteFault ≡ statuses.NoMemory = is in cc)
no_memory_said (Write writes.NoMemory) err is says = says

-- memory ran out
pub no_memory : (sense : Sense) (words : List (List ℕ)) (stop : Stop) (says : ℕ × ℕ) (files : Option Files × Option Files)
    (out err : Spoken)
    (errs : ℕ × ℕ) (result : Status)
    → Reports (stop_status stop) (stop_line stop) err errs result → Follows files.0 words (Err stop)
    → IfSome files.0 (λ before. Attempts sense before words files.1 out.0 out.1 (Err stop))
    → (StopsBefore (Err stop) → out.1 ≡ out.0) → Counts says.0 says.1 (FailsToSay (Err stop))
    → result ≡ statuses.NoMemory → IsOutOfMemory sense words files says out err
no_memory sense words stop says files out err errs result reports follows outcome unsaid said is =
    by_report _ _ err errs result reports
    (λ same told. record {
      stopped = stopped sense words stop says files out follows outcome unsaid said;
      errors = inr (no_memory_said stop err (sym same ∙ is) told);
    })
    (λ same failed. absurd (let no : statuses.WriteFault ≡ statuses.NoMemory = sym same ∙ is in cc))
    (λ none silent. record { stopped = stopped sense words stop says files out follows outcome unsaid said; errors = inl silent })
