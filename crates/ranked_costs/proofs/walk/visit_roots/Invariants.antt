use Rattle.std.proofs.Common.{◌≡◌, drop}
use Rattle.std.specs.List.{fold}
use Rattle.ranked_costs.specs.Walks.{visit}
use Rattle.ranked_costs.specs.Steps.{walk_at}
use Rattle.ranked_costs.proofs.walk.visit_roots.Given as goal

abbrev pub invariant-loop-root : goal.invariant-loop-root
invariant-loop-root l =
    fold (visit l.fuel l.fn.table) (walk_at l.rest.items l.left.items) (drop l.root-index l.fn.roots)
    ≡ fold (visit l.fuel l.fn.table) (walk_at l.fn.rest.items l.fn.left.items) l.fn.roots
