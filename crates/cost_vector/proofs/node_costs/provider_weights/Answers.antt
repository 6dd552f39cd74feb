use Rattle.cost_vector.specs.Terms.{weight_at}
use Rattle.cost_vector.proofs.Totals.{whole_step}
use Rattle.cost_vector.proofs.node_costs.provider_weights.Goals as goal

pub loop-p-preserved : goal.loop-p-preserved
loop-p-preserved c = whole_step (weight_at c.args.problem.now c.args.name.now) c.args.providers.now c.loop-p.p-index c.p-item.result _ _ _
    c.loop-p-test.true c.p-item.is c.loop-p.invariant c.weight_at.ensures c.saturating_add-total.ensures
