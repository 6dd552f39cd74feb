-- What is said of a certificate: that it is right, or the refusal that is due first.
use Rattle.std.specs.Prelude.{◌≡◌, ℕ, ◌-◌, ◌^◌, nat_le, true, ◌||◌, List, [], take, length, Option, Some, None, Result, Ok, Err, if◌then◌else◌}
use Rattle.std.specs.Option.{option_map}
use Rattle.std.specs.FinMap.{get}
use Rattle.outside_desk.specs.Files.{Files}
use Rattle.criteria_totals.specs.Spellings.{bits_for}
use Rattle.log_checker.specs.Steps.{CheckerState, begun}
use Rattle.log_checker.specs.declared.step.Step.TheVariants.{Accepted, Refused}
use Rattle.log_checker.specs.declared.step.Why.{Why}
use Rattle.log_checker.specs.declared.step.Why.TheVariants as whys
use Rattle.certified.specs.Texts.{answer_of, is_settled_by}
use Rattle.certified.specs.declared.text.TextAnswer.{TextAnswer}
use Rattle.certified.specs.declared.text.TextAnswer.TheVariants.{Checked, BadLine}
use Rattle.graph_core.specs.Graphs.{Content}
use Rattle.problem.specs.Nodes.{IsWellFormed}
use Rattle.problem.specs.Problems.{Problem}
use Rattle.graph_rules.specs.Valid.{valid}
use Rattle.graph_rules.specs.Costs.{vector}
use Rattle.graph_rules.specs.Optimal.{IsOptimal, HasNoGraph}
use Rattle.best_graph.specs.OfProblemEncoding.Built.{encoding_of, rule_clauses}
use Rattle.run_answers.specs.Stages.{or_refuse, Is, ◌>>=◌}
use Rattle.run_answers.specs.declared.refusal.Refusal.{Refusal}
use Rattle.run_answers.specs.declared.refusal.Refusal.TheVariants as refusals
use Rattle.run_answers.specs.declared.line_fault.LineFault.{LineFault}
use Rattle.run_answers.specs.declared.line_fault.LineFault.TheVariants as faults
use Rattle.run_task.specs.CertificateVerdicts.{CertificateVerdicts}

-- why the checker refuses a line, as a fault of the line
abbrev pub line_fault_of : Why → LineFault
line_fault_of whys.WrongCounts = faults.WrongCounts
line_fault_of whys.OutOfOrder = faults.OutOfOrder
line_fault_of whys.UnknownId = faults.UnknownId
line_fault_of whys.NoPivot = faults.NoPivot
line_fault_of whys.TwoPivots = faults.TwoPivots
line_fault_of whys.NotContained = faults.NotContained
line_fault_of whys.WrongBit = faults.WrongBit
line_fault_of whys.NotNew = faults.NotNew
line_fault_of whys.Unfinished = faults.Unfinished

-- what the answer to a text comes to
abbrev pub verdict_on_text : TextAnswer → Result (Unit {0}) Refusal
verdict_on_text (Checked Accepted) = Ok tt
verdict_on_text (Checked (Refused line why)) = Err (refusals.BadCertificate line (line_fault_of why))
verdict_on_text (BadLine line) = Err (refusals.BadCertificate line faults.BadLine)

-- the most bytes of a certificate
abbrev pub most : ℕ
most = 2 ^ 63 - 1

-- what is said of a text: its first 2^63 - 1 bytes count, and there may be more only where these
-- decide already
unfoldable pub said_of_text : CheckerState → List ℕ → Result (Unit {0}) Refusal
said_of_text s text =
    if nat_le (length text) most || is_settled_by s (take most text) then verdict_on_text (answer_of s (take most text))
    else Err refusals.CertificateTooLarge

-- what is said of the file at the path
unfoldable pub said_at : Files → List ℕ → CheckerState → Result (Unit {0}) Refusal
said_at files path s = do
  text ← or_refuse (refusals.MissingInput path) (get files path)
  said_of_text s text

-- a checker of logs that are to show that these costs of a graph are the least, over the encoding
-- of the problem; of costs that no bits spell, which no valid graph has, there is none. Without
-- costs it is one of refutations of the rules
abbrev pub begun_for : Problem → Option (List ℕ) → Option CheckerState
begun_for problem None = Some (begun (rule_clauses problem) [] None)
begun_for problem (Some numbers) =
    let e = encoding_of problem in option_map (λ values. begun e.clauses e.bits.lits (Some values)) (bits_for e.bits.tops numbers)

-- what is said of the certificate at the path; costs that no bits spell are refused at its first
-- line
unfoldable pub certified_at : Files → List ℕ → Problem → Option (List ℕ) → Result (Unit {0}) Refusal
certified_at files path problem numbers = do
  s ← or_refuse (refusals.BadCertificate 1 faults.WrongBit) (begun_for problem numbers)
  said_at files path s

-- what is said by the log that the file holds: that it is right, where the log is a right one over
-- the clauses of the problem, and else the first refusal
abbrev pub log_verdict : CertificateVerdicts
log_verdict files path problem numbers = Is (certified_at files path problem numbers)

-- what a right certificate shows: that a valid graph with these costs is optimal, or, without
-- costs, that no graph is valid
abbrev pub ShowsOf : Problem → Option (List ℕ) → Type 0
ShowsOf problem None = HasNoGraph problem
ShowsOf problem (Some numbers) = (graph : Content) → IsWellFormed graph → valid problem graph ≡ true → vector problem graph ≡ numbers
    → IsOptimal problem graph
