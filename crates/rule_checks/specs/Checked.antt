-- What is checked: the problem whose rules hold, and the graph.
use Rattle.graph_core.specs.Graphs.{Content}
use Rattle.problem.specs.Problems.{Problem}

pub record Checked : Type 0 where
  pub problem : Problem
  pub graph : Content

-- a rule of problems and graphs, of this problem at this graph
abbrev pub at : {X : Type 0} → (Problem → Content → X) → Checked → X
at rule c = rule c.problem c.graph
