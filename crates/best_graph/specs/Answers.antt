-- What is answered for a problem, and what shows it.
use Rattle.std.specs.Prelude.{◌≡◌, ◌⊎◌, ℕ, ◌<◌, ◌-◌, ◌^◌, Bool, true, List, [], length}
use Rattle.clause_store.specs.declared.Lit.{Lit}
use Rattle.clause_store.specs.Clauses.{Clauses}
use Rattle.proof_log.specs.declared.line.Line.{Line}
use Rattle.proof_log.specs.Lines.{AllLines}
use Rattle.proof_log.specs.Texts.{IsLine, may_write}
use Rattle.clause_solver.specs.Models.{values_in}
use Rattle.optimum_search.specs.Finding.{IsFound, MeetsAll}
use Rattle.optimum_search.specs.declared.found.Found.TheVariants as found
use Rattle.graph_core.specs.Graphs.{Content}
use Rattle.problem.specs.Nodes.{IsWellFormed}
use Rattle.problem.specs.Problems.{Problem}
use Rattle.graph_rules.specs.Optimal.{IsOptimal, HasNoGraph}
use Rattle.graph_decoding.specs.Decoding.{decode}
use Rattle.problem_encoding.specs.Encodings.{IsEncoded, RulesDecode}
use Rattle.problem_encoding.specs.Built.{encoding_of, rule_clauses}
use Rattle.problem_encoding.specs.declared.encoded.Encoded.{Encoded}
use Rattle.best_graph.specs.declared.answer.Answer.{Answer}
use Rattle.best_graph.specs.declared.answer.Answer.TheVariants.{Best, Nothing, Undecided}

-- the log of an answer
abbrev pub log_of : Answer → List Line
log_of (Best graph log) = log
log_of (Nothing log) = log
log_of (Undecided log) = log

-- the graph is optimal; or no graph is valid; or more lines were written than the budget counts,
-- which no budget of 2^64 - 1 or more lets happen, since no list in memory has so many
abbrev pub Means : Problem → ℕ → Answer → Type 0
Means problem budget (Best graph log) = IsWellFormed graph × IsOptimal problem graph
Means problem budget (Nothing log) = HasNoGraph problem
Means problem budget (Undecided log) = (budget < length log) × (budget < 2 ^ 64 - 1)

-- some assignment meets the clauses
abbrev pub HasModel : Clauses → Type 0
HasModel clauses = (v : ℕ → Bool) × MeetsAll v clauses

-- a log that spent the budget over clauses: it is below 3 to the number of variables, which is the
-- number of clauses that there are
abbrev pub SpentOver : Clauses → List Lit → ℕ → List Line → Type 0
SpentOver clauses bits budget log = IsFound clauses bits budget (found.Spent log) × (budget < 3 ^ clauses.vars)

-- a certificate of the bits of a model that decodes to the graph
abbrev pub CertifiedOver : Encoded → ℕ → Content → List Line → Type 0
CertifiedOver e budget graph log =
    (model : List Bool) × IsFound e.clauses e.bits.lits budget (found.Optimal model log) × (decode (values_in model) e.table ≡ graph)

-- the log shows it: a certificate over the encoding of the problem; a refutation of its rules
-- alone; or a log that spent the budget over the one or the other; and these clauses are those of
-- the problem
abbrev pub Shows : Problem → ℕ → Answer → Type 0
Shows problem budget (Best graph log) = IsEncoded problem (encoding_of problem) × CertifiedOver (encoding_of problem) budget graph log
Shows problem budget (Nothing log) = RulesDecode problem × IsFound (rule_clauses problem) [] budget (found.Refuted log)
Shows problem budget (Undecided log) = (RulesDecode problem × SpentOver (rule_clauses problem) [] budget log)
    ⊎ (IsEncoded problem (encoding_of problem) × SpentOver (encoding_of problem).clauses (encoding_of problem).bits.lits budget log)

-- an answer with a log that shows it, of which each line is as its type says and may be written
pub record IsAnswer (problem : Problem) (budget : ℕ) (answer : Answer) : Type 0 where
  pub means : Means problem budget answer
  pub lines : AllLines IsLine (log_of answer)
  pub writable : AllLines (λ line. may_write line ≡ true) (log_of answer)
  pub shows : Shows problem budget answer
