-- A log that may be written is accepted as a text where it is accepted as lines.
use Rattle.std.proofs.Common.{◌≡◌, refl, ap, ◌∙◌, ℕ, ◌≤◌, Bool, true, List, [], ◌∷◌, length, Option, Some, None, Ok}
use Rattle.std.specs.Prelude.{◌↔◌}
use Rattle.std.specs.Option.{option_map}
use Rattle.outside_desk.specs.Files.{Files}
use Rattle.clause_store.specs.declared.Lit.{Lit}
use Rattle.clause_store.specs.Clauses.{Clauses, clauses_of}
use Rattle.clause_store.specs.Lits.{IsClause}
use Rattle.proof_log.specs.declared.line.Line.{Line}
use Rattle.proof_log.specs.declared.line.Line.TheVariants.{Header, Learnt, Zero, One, Unsat, Spent, End}
use Rattle.proof_log.specs.Known.{AllClauses}
use Rattle.proof_log.specs.Lines.{AllLines, OfLearnt}
use Rattle.proof_log.specs.Texts.{IsLine, may_write}
use Rattle.proof_log.specs.Readings.{log_text, AreWritable}
use Rattle.log_checker.specs.declared.step.Step.TheVariants.{Accepted}
use Rattle.log_checker.specs.Kinds.{IsLogOf}
use Rattle.log_checker.specs.Steps.{CheckerState, Going, starting_state, begun, run_lines, finish_on}
use Rattle.certified.specs.Texts.{answer_of}
use Rattle.certified.specs.declared.text.TextAnswer.TheVariants.{Checked}
use Rattle.problem.specs.Problems.{Problem}
use Rattle.graph_rules.specs.Costs.{vector}
use Rattle.run_answers.specs.Stages.{◌>>=◌, or_refuse}
use Rattle.run_answers.specs.declared.refusal.Refusal.TheVariants as refusals
use Rattle.run_answers.specs.declared.line_fault.LineFault.TheVariants as faults
use Rattle.best_graph.specs.OfProblemEncoding.Built.{encoding_of, rule_clauses}
use Rattle.best_graph.specs.Verdicts.{BestIsCertified, NothingIsRefuted}
use Rattle.run_task.specs.Certificates.{begun_for, said_at, said_of_text, certified_at, verdict_on_text, most}
use Rattle.run_task.proofs.Reading.{said_short}
use Rattle.run_task.specs.Again.{AreKept, HoldsLog, BestIsAccepted, NothingIsAccepted}

-- what lines and texts are accepted
abbrev pub AcceptsLines : Type 0
AcceptsLines = (vars : ℕ) (input : List (List Lit)) (bits : List Lit) (values : Option (List Bool)) (lines : List Line) → AllClauses input
    → AllLines (λ l. OfLearnt IsClause l) lines
    → (finish_on (run_lines (Going (starting_state vars input bits values)) lines) ≡ Accepted) ↔ IsLogOf vars input bits values lines

-- what answers say of their logs
abbrev pub AnswersWritten : Type 0
AnswersWritten = (s : CheckerState) (lines : List Line) → AreWritable lines
    → answer_of s (log_text lines) ≡ Checked (finish_on (run_lines (Going s) lines))

learnt_of : (line : Line) → IsLine line → OfLearnt IsClause line
learnt_of (Header vars clauses bits) is = tt
learnt_of (Learnt id c chain) is = is.1
learnt_of (Zero id b) is = tt
learnt_of (One id b chain) is = tt
learnt_of (Unsat chain) is = tt
learnt_of Spent is = tt
learnt_of End is = tt

all_learnt : (lines : List Line) → AllLines IsLine lines → AllLines (λ l. OfLearnt IsClause l) lines
all_learnt [] are = tt
all_learnt (l ∷ ls) are = (learnt_of l are.0, all_learnt ls are.1)

writable : (lines : List Line) → AllLines IsLine lines → AllLines (λ l. may_write l ≡ true) lines → AreWritable lines
writable [] are may = tt
writable (l ∷ ls) are may = ((are.0, may.0), writable ls are.1 may.1)

module _ (accepts : AcceptsLines) (written : AnswersWritten) (s : Clauses) (bits : List Lit) (log : List Line)
    (kept : AreKept s log) (may : AllLines (λ l. may_write l ≡ true) log) (values : Option (List Bool))
    (is : IsLogOf s.vars (clauses_of s.entries) bits values log) where
  said_text : length (log_text log) ≤ most → said_of_text (begun s bits values) (log_text log) ≡ Ok tt
  said_text short =
      said_short (begun s bits values) (log_text log) short
      ∙ ap verdict_on_text (written (begun s bits values) log (writable log kept.lines may)
      ∙ ap Checked ((accepts s.vars (clauses_of s.entries) bits values log kept.ordered (all_learnt log kept.lines)).1 is))

  said_file : (files : Files) (path : List ℕ) → HoldsLog files path log → said_at files path (begun s bits values) ≡ Ok tt
  unfolding said_at
  said_file files path holds =
      ap (λ (o : Option (List ℕ)). or_refuse (refusals.MissingInput path) o >>= λ text. said_of_text (begun s bits values) text) holds.there
      ∙ said_text holds.short

  -- the file is a right certificate of the costs that begin such a checker
  pub accepted_by : (problem : Problem) (files : Files) (path : List ℕ) → HoldsLog files path log
      → (numbers : Option (List ℕ)) → begun_for problem numbers ≡ Some (begun s bits values)
      → certified_at files path problem numbers ≡ Ok tt
  unfolding certified_at
  accepted_by problem files path holds numbers begin =
      ap (λ (o : Option CheckerState). or_refuse (refusals.BadCertificate 1 faults.WrongBit) o >>= λ s. said_at files path s) begin
      ∙ said_file files path holds

-- the log of a best graph that `concretize` wrote is accepted by `check`
pub best_accepted : AcceptsLines → AnswersWritten → BestIsCertified → BestIsAccepted
best_accepted accepts written certified problem budget graph log answer kept files path holds =
    let e = encoding_of problem in
    let (values, spelled, certifies) = certified problem budget graph log answer in
    accepted_by accepts written e.clauses e.bits.lits log kept answer.writable (Some values) certifies problem files path holds
    (Some (vector problem graph)) (ap (option_map (λ v. begun e.clauses e.bits.lits (Some v))) spelled)

-- the log of none is accepted by `refute`
pub nothing_accepted : AcceptsLines → AnswersWritten → NothingIsRefuted → NothingIsAccepted
nothing_accepted accepts written refuted problem budget log answer kept files path holds =
    accepted_by accepts written (rule_clauses problem) [] log kept answer.writable None (refuted problem budget log answer)
    problem files path
    holds None refl
