use Rattle.std.proofs.Common.{◌≡◌, ◌+◌, take}
use Rattle.table_plan.specs.Numbers.{blocks_from, widths}
use Rattle.table_plan.proofs.numbering.blocks_from.Given as goal

abbrev pub invariant-loop-p : goal.invariant-loop-p
invariant-loop-p l = record {
  made : l.blocks.items ≡ blocks_from l.initial.next (take l.p-index l.nodes);
  next : l.next ≡ l.initial.next + widths (take l.p-index l.nodes);
}
