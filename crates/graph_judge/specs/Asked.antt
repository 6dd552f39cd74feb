-- Demands by their numbers.
use Rattle.std.specs.Prelude.{Bool, ℕ, slice_get}
use Rattle.condition_rules.specs.Words.{is_some_and}
use Rattle.problem.specs.Demands.{demands}
use Rattle.problem.specs.Problems.{Problem}
use Rattle.problem.specs.declared.demand.Demand.{Demand}
use Rattle.problem.specs.declared.demand.Demand.TheVariants as demand
use Rattle.graph_rules.specs.Verdict.{same_demand}
use Rattle.graph_judge.specs.declared.asked.NamedDemand.{NamedDemand}
use Rattle.graph_judge.specs.declared.asked.NamedDemand.TheVariants as named

-- the demand of that name
abbrev pub demand_of : NamedDemand → Demand
demand_of (named.Root place) = demand.Root place
demand_of (named.Directive name number) = demand.Directive name.now number
demand_of (named.Setting name number) = demand.Setting name.now number

-- the number is that of this demand
abbrev pub is_numbered : Problem → Demand → ℕ → Bool
is_numbered problem d id = is_some_and (slice_get (demands problem) id) (same_demand d)
