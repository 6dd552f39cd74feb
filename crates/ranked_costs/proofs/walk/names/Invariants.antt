use Rattle.std.proofs.Common.{◌≡◌, ◌++◌, map, drop}
use Rattle.literal_table.specs.Tables.{block_name}
use Rattle.ranked_costs.proofs.walk.names.Given as goal

abbrev pub invariant-loop-block : goal.invariant-loop-block
invariant-loop-block l = l.names.items ++ map block_name (drop l.block-index l.blocks) ≡ map block_name l.blocks
