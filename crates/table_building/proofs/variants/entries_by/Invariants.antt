use Rattle.std.proofs.Common.{◌≡◌, ◌++◌, take, map}
use Rattle.std.specs.List.{flat_map}
use Rattle.keyed_lists.specs.Lent.{lent}
use Rattle.table_plan.specs.Gathering.{listed}
use Rattle.table_building.proofs.variants.entries_by.Given as goal

abbrev pub invariant-loop-node : goal.invariant-loop-node
invariant-loop-node l = lent l.entries.items ≡ listed l.can (map (λ row. (row.name, row.values)) l.rows)
    ++ flat_map (λ node. node.variants) (take l.node-index l.kept)
