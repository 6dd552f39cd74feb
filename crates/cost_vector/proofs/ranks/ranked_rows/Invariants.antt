use Rattle.std.proofs.Common.{◌≡◌, ◌++◌, map, drop}
use Rattle.cost_vector.specs.Ranks.{rank}
use Rattle.cost_vector.proofs.ranks.ranked_rows.Given as goal

abbrev pub invariant-loop-row : goal.invariant-loop-row
invariant-loop-row l = l.ranked.items ++ map (rank l.lists) (drop l.row-index l.rows) ≡ map (rank l.lists) l.rows
