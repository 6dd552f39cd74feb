-- What the check of a certificate says of the log of an answer.
use Rattle.std.specs.Prelude.{◌≡◌, ◌≤◌, ℕ, ◌+◌, List, [], ◌∷◌, length, Some, None, Ok}
use Rattle.std.specs.FinMap.{get}
use Rattle.outside_desk.specs.Files.{Files}
use Rattle.clause_store.specs.Clauses.{Clauses, clauses_of}
use Rattle.proof_log.specs.declared.line.Line.{Line}
use Rattle.proof_log.specs.Known.{AllClauses}
use Rattle.proof_log.specs.Lines.{AllLines}
use Rattle.proof_log.specs.Texts.{IsLine}
use Rattle.proof_log.specs.Readings.{log_text}
use Rattle.graph_core.specs.Graphs.{Content}
use Rattle.problem.specs.Problems.{Problem}
use Rattle.graph_rules.specs.Costs.{vector}
use Rattle.best_graph.specs.Answers.{IsAnswer}
use Rattle.best_graph.specs.declared.answer.Answer.TheVariants.{Best, Nothing}
use Rattle.best_graph.specs.OfProblemEncoding.Built.{encoding_of, rule_clauses}
use Rattle.best_graph.specs.declared.answer.Answer.{Answer}
use Rattle.run_task.specs.Certificates.{certified_at, log_verdict, most}
use Rattle.run_task.specs.Places.{cert_at, lock_at}
use Rattle.run_task.specs.Verdicts.{Judges}
use Rattle.run_task.specs.Tasks.{ChecksOf}
use Rattle.run_task.specs.declared.task.Task.TheVariants.{Accepted}

-- clauses and the lines of a log are as each list of clauses and each log in memory is
pub record AreKept (clauses : Clauses) (log : List Line) : Type 0 where
  pub ordered : AllClauses (clauses_of clauses.entries)
  pub lines : AllLines IsLine log

-- the file at the path holds the log, in fewer than 2^63 bytes
pub record HoldsLog (files : Files) (path : List ℕ) (log : List Line) : Type 0 where
  pub there : get files path ≡ Some (log_text log)
  pub short : length (log_text log) ≤ most

-- the certificate of a best graph is right for its costs
abbrev pub BestIsAccepted : Type 0
BestIsAccepted = (problem : Problem) (budget : ℕ) (graph : Content) (log : List Line) → IsAnswer problem budget (Best graph log)
    → AreKept (encoding_of problem).clauses log → (files : Files) (path : List ℕ) → HoldsLog files path log
    → certified_at files path problem (Some (vector problem graph)) ≡ Ok tt

-- and the refutation of a problem without a graph
abbrev pub NothingIsAccepted : Type 0
NothingIsAccepted = (problem : Problem) (budget : ℕ) (log : List Line) → IsAnswer problem budget (Nothing log)
    → AreKept (rule_clauses problem) log → (files : Files) (path : List ℕ) → HoldsLog files path log
    → certified_at files path problem None ≡ Ok tt

-- ---- each root by itself

-- the files at the paths are those of a best graph that was written: its log, and a lock file of
-- which is said that it has the graph's costs
pub record IsWrittenBest (files : Files) (lock cert : List ℕ) (problem : Problem) (budget : ℕ) (graph : Content)
    (log : List Line) : Type 0 where
  pub answer : IsAnswer problem budget (Best graph log)
  pub kept : AreKept (encoding_of problem).clauses log
  pub judged : Judges files lock problem (Ok (vector problem graph))
  pub holds : HoldsLog files cert log

-- so are those of all problems, whose files have numbers from this one on
abbrev pub AreWritten : Files → List ℕ → ℕ → ℕ → List Problem → List Answer → Type 0
AreWritten files dir budget root [] [] = Unit {0}
AreWritten files dir budget root (problem ∷ more) (Best graph log ∷ others) =
    IsWrittenBest files (lock_at dir root) (cert_at dir root) problem budget graph log × AreWritten files dir budget (root + 1) more others
AreWritten files dir budget root problems found = ⊥

-- then the check of all says yes
abbrev pub EachIsAccepted : Type 0
EachIsAccepted = (files : Files) (dir : List ℕ) (budget root : ℕ) (problems : List Problem) (found : List Answer)
    → AreWritten files dir budget root problems found → ChecksOf log_verdict files dir root problems (Ok Accepted)
