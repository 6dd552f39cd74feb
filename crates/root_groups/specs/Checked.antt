-- The check of parts: for each, values of its bits and a log.
use Rattle.std.specs.Prelude.{ℕ, ◌+◌, List, [], ◌∷◌, Option, Some, None}
use Rattle.clause_store.specs.Clauses.{clauses_of}
use Rattle.proof_log.specs.Certificates.{IsCertificate}
use Rattle.log_checker.specs.declared.step.Step.{Step}
use Rattle.log_checker.specs.declared.step.Step.TheVariants.{Accepted, Refused}
use Rattle.log_checker.specs.declared.step.Why.{Why}
use Rattle.log_checker.specs.Steps.{Going, begun, run_lines, finish_on}
use Rattle.root_groups.specs.declared.checked.CheckedPart.{CheckedPart}

-- the log is a certificate of the values, over the clauses of the part
abbrev pub IsCertified : CheckedPart → Type 0
IsCertified checked =
    IsCertificate checked.part.clauses.vars (clauses_of checked.part.clauses.entries) checked.part.bits.items
    checked.values.items checked.log

-- what the check of its lines ends with
abbrev pub step_of : CheckedPart → Step
step_of checked =
    finish_on (run_lines (Going (begun checked.part.clauses checked.part.bits.items (Some checked.values.items))) checked.log)

-- a part's place, the line that is refused, and why
abbrev pub Bad : Type 0
Bad = ℕ × ℕ × Why

abbrev pub refused_at : ℕ → Step → Option Bad
refused_at place Accepted = None
refused_at place (Refused line why) = Some (place, line, why)

-- what was found, or else what is found behind it
abbrev pub either : Option Bad → Option Bad → Option Bad
either None later = later
either (Some bad) later = Some bad

-- the first part that is refused, where the first of them has this place
abbrev pub first_refused : ℕ → List CheckedPart → Option Bad
first_refused place [] = None
first_refused place (part ∷ more) = either (refused_at place (step_of part)) (first_refused (place + 1) more)
