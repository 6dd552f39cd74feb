use Rattle.std.proofs.Common.{ap, ◌∙◌}
use Rattle.graph_core.specs.Graphs.{Text}
use Rattle.condition_rules.specs.Worlds.{World}
use Rattle.condition_rules.specs.Holds.{governing}
use Rattle.graph_rules.specs.Costs.{beside_default}
use Rattle.cost_vector.specs.Terms.{beside, variant_cost}
use Rattle.cost_vector.proofs.Totals.{whole_step}
use Rattle.cost_vector.proofs.node_costs.over_variants.Goals as goal

pub loop-variant-preserved : goal.loop-variant-preserved
loop-variant-preserved c =
    let v = c.variant-item.result in
    let cost = λ (at : World × Text). beside_default (beside c.args.defaults) v.1 (governing at.0 c.args.graph.now at.1 v.0) in
    whole_step (variant_cost c.args.defaults c.args.problem.now c.args.graph.now c.args.name.now) c.args.variants.now
    c.loop-variant.variant-index v _ _ _ c.loop-variant-test.true c.variant-item.is c.loop-variant.invariant
    (c.in_ok-count.ensures ∙ ap cost c.in_ok-definitions.ensures ∙ ap (λ (w : World). cost (w, c.args.name.now)) c.world.ensures)
    c.saturating_add-total.ensures
