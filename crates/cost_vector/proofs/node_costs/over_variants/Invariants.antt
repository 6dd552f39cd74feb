use Rattle.std.proofs.Common.{◌≡◌, take}
use Rattle.std.specs.List.{sum_by}
use Rattle.graph_rules.specs.Costs.{stopped}
use Rattle.cost_vector.specs.Terms.{variant_cost}
use Rattle.cost_vector.proofs.node_costs.over_variants.Given as goal

abbrev pub invariant-loop-variant : goal.invariant-loop-variant
invariant-loop-variant l = l.total ≡ stopped (sum_by (variant_cost l.defaults l.problem l.graph l.name) (take l.variant-index l.variants))
