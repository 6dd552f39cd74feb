-- What may be said of any certificate.
use Rattle.std.proofs.Common.{refl, ℕ, Bool, true, false, List, Option, Some, None, Err, cond}
use Rattle.std.specs.Prelude.{◌||◌, nat_le, length, take}
use Rattle.std.specs.FinMap.{get}
use Rattle.outside_desk.specs.Files.{Files}
use Rattle.log_checker.specs.Steps.{CheckerState}
use Rattle.log_checker.specs.declared.step.Step.TheVariants.{Accepted, Refused}
use Rattle.certified.specs.Texts.{answer_of, is_settled_by}
use Rattle.certified.specs.declared.text.TextAnswer.{TextAnswer}
use Rattle.certified.specs.declared.text.TextAnswer.TheVariants.{Checked, BadLine}
use Rattle.problem.specs.Problems.{Problem}
use Rattle.run_answers.specs.Stages.{◌>>=◌, or_refuse}
use Rattle.run_answers.specs.declared.refusal.Refusal.TheVariants as refusals
use Rattle.run_answers.specs.declared.line_fault.LineFault.TheVariants as faults
use Rattle.run_task.specs.CertificateVerdicts.{MayBeSaid}
use Rattle.run_task.specs.Certificates.{begun_for, certified_at, most, said_at, said_of_text, verdict_on_text}

of_answer : (path : List ℕ) (answer : TextAnswer) → MayBeSaid path (verdict_on_text answer)
of_answer path (Checked Accepted) = tt
of_answer path (Checked (Refused line why)) = tt
of_answer path (BadLine line) = tt

of_choice : (path : List ℕ) (b : Bool) (answer : TextAnswer)
    → MayBeSaid path (cond b (verdict_on_text answer) (Err refusals.CertificateTooLarge))
of_choice path true answer = of_answer path answer
of_choice path false answer = tt

of_text : (path : List ℕ) (s : CheckerState) (text : List ℕ) → MayBeSaid path (said_of_text s text)
unfolding said_of_text
of_text path s text =
    of_choice path (nat_le (length text) most || is_settled_by s (take most text)) (answer_of s (take most text))

of_file : (path : List ℕ) (s : CheckerState) (file : Option (List ℕ))
    → MayBeSaid path (or_refuse (refusals.MissingInput path) file >>= λ text. said_of_text s text)
of_file path s None = refl
of_file path s (Some text) = of_text path s text

at_path : (files : Files) (path : List ℕ) (s : CheckerState) → MayBeSaid path (said_at files path s)
unfolding said_at
at_path files path s = of_file path s (get files path)

of_begun : (files : Files) (path : List ℕ) (begun : Option CheckerState)
    → MayBeSaid path (or_refuse (refusals.BadCertificate 1 faults.WrongBit) begun >>= λ s. said_at files path s)
of_begun files path None = tt
of_begun files path (Some s) = at_path files path s

-- of a certificate it is said that it is right, or a refusal of it
pub may_be_said : (files : Files) (path : List ℕ) (problem : Problem) (numbers : Option (List ℕ))
    → MayBeSaid path (certified_at files path problem numbers)
unfolding certified_at
may_be_said files path problem numbers = of_begun files path (begun_for problem numbers)
