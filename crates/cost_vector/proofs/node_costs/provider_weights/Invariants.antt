use Rattle.std.proofs.Common.{◌≡◌, take}
use Rattle.std.specs.List.{sum_by}
use Rattle.graph_rules.specs.Costs.{stopped}
use Rattle.cost_vector.specs.Terms.{weight_at}
use Rattle.cost_vector.proofs.node_costs.provider_weights.Given as goal

abbrev pub invariant-loop-p : goal.invariant-loop-p
invariant-loop-p l = l.total ≡ stopped (sum_by (weight_at l.problem l.name) (take l.p-index l.providers))
