use Rattle.std.proofs.Common.{◌≡◌, ◌++◌, take, map}
use Rattle.keyed_lists.specs.Lent.{lent}
use Rattle.table_building.proofs.variants.add_rows.Given as goal

abbrev pub invariant-loop-row : goal.invariant-loop-row
invariant-loop-row l = lent l.entries.items ≡ lent l.initial.entries.items ++ map (λ row. (row.name, row.values)) (take l.row-index l.rows)
