-- Best graphs.
use Rattle.std.specs.Prelude.{◌≡◌, true, false}
use Rattle.graph_core.specs.Graphs.{Content}
use Rattle.problem.specs.Nodes.{IsWellFormed}
use Rattle.problem.specs.Problems.{Problem}
use Rattle.graph_rules.specs.Valid.{valid}
use Rattle.graph_rules.specs.Costs.{vector, smaller}

-- the graph is valid, and no valid graph has a smaller vector
pub record IsOptimal (problem : Problem) (graph : Content) : Type 0 where
  pub is_valid : valid problem graph ≡ true
  pub least : (other : Content) → IsWellFormed other → valid problem other ≡ true
      → smaller (vector problem other) (vector problem graph) ≡ false

-- no graph is valid
abbrev pub HasNoGraph : Problem → Type 0
HasNoGraph problem = (graph : Content) → IsWellFormed graph → valid problem graph ≡ false
