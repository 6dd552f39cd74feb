use Rattle.std.proofs.Common.{◌≡◌, take}
use Rattle.std.specs.List.{sum_by}
use Rattle.graph_rules.specs.Costs.{cost_of, stopped}
use Rattle.cost_vector.specs.Terms.{half_cost}
use Rattle.cost_vector.proofs.sums.sum_over.Given as goal

abbrev pub invariant-loop-node : goal.invariant-loop-node
invariant-loop-node l =
    l.total ≡ stopped (sum_by (half_cost l.built (cost_of l.problem l.graph l.criterion)) (take l.node-index l.nodes))
