use Rattle.ranked_costs.proofs.WalkSteps.{ordered}
use Rattle.ranked_costs.proofs.walk.post_order.Goals as goal

pub returns : goal.returns
returns c =
    ordered c.args.table.now c.args.roots.now c.in_ok-rest.rest.items c.new-left.result.items c.visit_roots.new.rest.items
    c.visit_roots.new.left.items _
    _ _ c.blocks-2.ensures.blocks c.blocks-3.ensures.blocks c.in_ok-rest.ensures c.new-left.ensures.items c.in_ok-visit_roots.ensures
    c.in_ok-push_all.ensures
