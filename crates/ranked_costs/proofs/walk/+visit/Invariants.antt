use Rattle.std.proofs.Common.{◌≡◌, ◌-◌, drop}
use Rattle.ranked_costs.specs.Steps.{walk_at, visit_all}
use Rattle.ranked_costs.specs.Walks.{entered}
use Rattle.ranked_costs.proofs.walk.+visit.Given as goal

abbrev pub decreases-visit : goal.decreases-visit
decreases-visit l = l.fuel

abbrev pub invariant-loop-edge : goal.invariant-loop-edge
invariant-loop-edge l =
    visit_all (l.fuel - 1) l.fn.table l.fn.name (walk_at l.rest.items l.left.items) (drop l.edge-index l.fn.table.edges)
    ≡ visit_all (l.fuel - 1) l.fn.table l.fn.name (entered l.fn.name (walk_at l.fn.rest.items l.fn.left.items)) l.fn.table.edges
