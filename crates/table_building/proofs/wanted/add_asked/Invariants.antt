use Rattle.std.proofs.Common.{◌≡◌, ◌++◌, take}
use Rattle.std.specs.List.{filter_map}
use Rattle.table_building.proofs.wanted.add_asked.Given as goal

abbrev pub invariant-loop-row : goal.invariant-loop-row
invariant-loop-row l = l.asked.items ≡ l.initial.asked.items ++ filter_map (λ row. row.part.name) (take l.row-index l.rows)
