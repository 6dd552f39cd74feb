-- Plans: the waves of the earliest schedule, and a chain that shows why there are so many.
use Rattle.std.specs.Prelude.{ℕ, List}
use Rattle.graph_core.specs.Graphs.{Text, Content}
use Rattle.install_plan.specs.Schedules.{IsEarliest, AreWaves}
use Rattle.install_plan.specs.Chains.{IsChain}

-- the plan of a graph
pub record IsPlan (g : Content) (waves : List (List Text)) (chain : List Text) : Type 0 where
  pub earliest : (wave_of : Text → ℕ) × IsEarliest g wave_of × AreWaves g wave_of waves
  pub down : IsChain g waves chain
