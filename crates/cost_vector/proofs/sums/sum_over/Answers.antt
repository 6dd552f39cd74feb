use Rattle.graph_rules.specs.Costs.{cost_of}
use Rattle.cost_vector.specs.Terms.{half_cost}
use Rattle.cost_vector.proofs.Totals.{stopped_step}
use Rattle.cost_vector.proofs.sums.sum_over.Goals as goal

pub loop-node-preserved : goal.loop-node-preserved
loop-node-preserved c =
    stopped_step (half_cost c.args.built (cost_of c.args.problem.now c.args.graph.now c.args.criterion)) c.args.nodes.now
    c.loop-node.node-index c.node-item.result _ _ _
    c.loop-node-test.true c.node-item.is c.loop-node.invariant c.in_ok-cost.ensures c.saturating_add-total.ensures
