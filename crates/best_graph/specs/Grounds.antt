-- What an explanation rests on: a log of a search over the clauses of a problem's rules.
use Rattle.std.specs.Prelude.{ℕ, ◌<◌, ◌^◌, List, []}
use Rattle.clause_store.specs.Clauses.{clauses_of}
use Rattle.proof_log.specs.declared.line.Line.{Line}
use Rattle.proof_log.specs.Certificates.{IsSpentLog}
use Rattle.explain_failure.specs.Uses.{AreReasons}
use Rattle.problem.specs.Problems.{Problem}
use Rattle.problem_encoding.specs.Built.{rule_clauses}
use Rattle.best_graph.specs.Verdicts.{Refutes}
use Rattle.best_graph.specs.declared.explanation.Explanation.{Explanation}
use Rattle.best_graph.specs.declared.explanation.Explanation.TheVariants.{Satisfiable, Unmet, Undecided}

-- the log is a refutation of the problem's rules, and rests on exactly these demands
pub record IsRefuted (problem : Problem) (numbers : List ℕ) (log : List Line) : Type 0 where
  pub refutation : Refutes problem log
  pub reasons : AreReasons (rule_clauses problem).entries log numbers

-- the log learnt one clause more than the budget, which is below 3 to the number of variables
pub record IsSpent (problem : Problem) (budget : ℕ) (log : List Line) : Type 0 where
  pub spent : let rules = rule_clauses problem in IsSpentLog rules.vars (clauses_of rules.entries) [] budget log
  pub small : budget < 3 ^ (rule_clauses problem).vars

abbrev pub RestsOn : Problem → ℕ → Explanation → Type 0
RestsOn problem budget Satisfiable = Unit {0}
RestsOn problem budget (Unmet numbers log) = IsRefuted problem numbers log
RestsOn problem budget (Undecided log) = IsSpent problem budget log
