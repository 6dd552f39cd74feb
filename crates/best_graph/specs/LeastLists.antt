-- A least list of demands for which no graph of a problem is valid.
use Rattle.std.specs.Prelude.{◌≡◌, ◌⊎◌, ℕ, ◌<◌, ◌-◌, ◌^◌, true, false, List, [], ◌∷◌}
use Rattle.clause_store.specs.Clauses.{clauses_of}
use Rattle.proof_log.specs.declared.line.Line.{Line}
use Rattle.proof_log.specs.Certificates.{IsSpentLog}
use Rattle.explain_failure.specs.Uses.{stands, IsRising}
use Rattle.reason_minimum.specs.Parts.{clauses_for, without_number, AreAll}
use Rattle.graph_core.specs.Graphs.{Content}
use Rattle.problem.specs.Nodes.{IsWellFormed}
use Rattle.problem.specs.Problems.{Problem}
use Rattle.graph_rules.specs.Valid.{valid_for}
use Rattle.problem_encoding.specs.Built.{rule_clauses}
use Rattle.best_graph.specs.Explanations.{HasGraph, IsUnmet}
use Rattle.problem.specs.Demands.{demands_at}
use Rattle.best_graph.specs.declared.least_explanation.LeastExplanation.{LeastExplanation}
use Rattle.best_graph.specs.declared.least_explanation.LeastExplanation.TheVariants.{Satisfiable, Least, Undecided}

-- a graph that is valid for the demands with these numbers
pub record IsValidFor (problem : Problem) (numbers : List ℕ) (graph : Content) : Type 0 where
  pub well_formed : IsWellFormed graph
  pub is_valid : valid_for (demands_at problem numbers) problem graph ≡ true

-- for each of some demands, at its place, a graph that is valid for all others of a list
abbrev pub HaveGraphs : Problem → List ℕ → List ℕ → List Content → Type 0
HaveGraphs problem all [] [] = Unit {0}
HaveGraphs problem all [] (g ∷ gs) = ⊥
HaveGraphs problem all (n ∷ ns) [] = ⊥
HaveGraphs problem all (n ∷ ns) (g ∷ gs) = IsValidFor problem (without_number n all) g × HaveGraphs problem all ns gs

-- no graph is valid for these demands, and for each of them one is valid for all others: none can
-- be left out
pub record IsLeastList (problem : Problem) (numbers : List ℕ) (graphs : List Content) : Type 0 where
  pub rising : IsRising numbers
  pub unmet : IsUnmet problem numbers
  pub each_needed : HaveGraphs problem numbers numbers graphs

-- some graph is valid; or none is, for these demands, of which none can be left out; or the budget
-- was spent, as none of 2^64 - 1 is
abbrev pub ExplainsLeast : Problem → ℕ → LeastExplanation → Type 0
ExplainsLeast problem budget Satisfiable = HasGraph problem
ExplainsLeast problem budget (Least numbers graphs) = IsLeastList problem numbers graphs
ExplainsLeast problem budget (Undecided numbers log) = budget < 2 ^ 64 - 1

-- these are all demands that label a clause of the problem's rules; or for them and one more no
-- graph is valid
abbrev pub AreOpen : Problem → List ℕ → Type 0
AreOpen problem numbers =
    AreAll (rule_clauses problem) numbers ⊎ ((d : ℕ) × (stands numbers d ≡ false) × IsUnmet problem (d ∷ numbers))

-- the log spent the budget over the clauses of these demands; the budget is below 3 to the number
-- of variables
pub record IsSpentOn (problem : Problem) (budget : ℕ) (numbers : List ℕ) (log : List Line) : Type 0 where
  pub rising : IsRising numbers
  pub spent : let part = clauses_for numbers (rule_clauses problem) in IsSpentLog part.vars (clauses_of part.entries) [] budget log
  pub small : budget < 3 ^ (rule_clauses problem).vars
  pub are_open : AreOpen problem numbers

abbrev pub LeastRestsOn : Problem → ℕ → LeastExplanation → Type 0
LeastRestsOn problem budget Satisfiable = Unit {0}
LeastRestsOn problem budget (Least numbers graphs) = Unit {0}
LeastRestsOn problem budget (Undecided numbers log) = IsSpentOn problem budget numbers log
