use Rattle.std.proofs.Common.{◌≡◌, ◌++◌, map, drop}
use Rattle.literal_table.specs.Tables.{block_name}
use Rattle.ranked_costs.specs.Given.{held_from, held_for}
use Rattle.ranked_costs.proofs.held.held_for.Given as goal

abbrev pub invariant-loop-block : goal.invariant-loop-block
invariant-loop-block l =
    l.held.items ++ held_from l.fn.problem (map block_name (drop l.block-index l.fn.table.blocks)) l.rest ≡ held_for l.fn.problem
    l.fn.table l.fn.values
