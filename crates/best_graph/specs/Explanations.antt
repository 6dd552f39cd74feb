-- Why no graph of a problem is valid, or that one is.
use Rattle.std.specs.Prelude.{◌≡◌, ℕ, ◌<◌, ◌-◌, ◌^◌, true, List}
use Rattle.graph_core.specs.Graphs.{Content}
use Rattle.problem.specs.Nodes.{IsWellFormed}
use Rattle.problem.specs.Problems.{Problem}
use Rattle.problem.specs.Demands.{demands_at}
use Rattle.graph_rules.specs.Valid.{valid, valid_for}
use Rattle.graph_rules.specs.Optimal.{HasNoGraph}
use Rattle.best_graph.specs.declared.explanation.Explanation.{Explanation}
use Rattle.best_graph.specs.declared.explanation.Explanation.TheVariants.{Satisfiable, Unmet, Undecided}

-- some graph is valid
pub record HasGraph (problem : Problem) : Type 0 where
  pub graph : Content
  pub well_formed : IsWellFormed graph
  pub is_valid : valid problem graph ≡ true

-- no graph is valid, not even for these demands alone
pub record IsUnmet (problem : Problem) (numbers : List ℕ) : Type 0 where
  pub alone : (graph : Content) → IsWellFormed graph → valid_for (demands_at problem numbers) problem graph ≡ true → ⊥
  pub none : HasNoGraph problem

-- some graph is valid; or none is, for these demands; or the budget was spent, as none of 2^64 - 1
-- is
abbrev pub Explains : Problem → ℕ → Explanation → Type 0
Explains problem budget Satisfiable = HasGraph problem
Explains problem budget (Unmet numbers log) = IsUnmet problem numbers
Explains problem budget (Undecided log) = budget < 2 ^ 64 - 1
