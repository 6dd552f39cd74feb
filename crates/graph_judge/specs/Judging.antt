-- What a judge goes by: the problem whose rules hold, the graph, and the numbers of the demands that are asked, or none for all.
use Rattle.std.specs.Prelude.{ℕ, List, Option, Some, None}
use Rattle.graph_core.specs.Graphs.{Content}
use Rattle.problem.specs.Demands.{demands_at}
use Rattle.problem.specs.Problems.{Problem}
use Rattle.graph_rules.specs.Verdict.{Asked, all_asked, is_among}

pub record Judging : Type 0 where
  pub ids : Option (List ℕ)
  pub problem : Problem
  pub graph : Content

-- the demands of these numbers, or all
abbrev pub asked_of : Problem → Option (List ℕ) → Asked
asked_of problem None = all_asked
asked_of problem (Some ids) = is_among (demands_at problem ids)

abbrev pub asked : Judging → Asked
asked j = asked_of j.problem j.ids
