use Rattle.std.proofs.Common.{◌≡◌, ◌+◌, take}
use Rattle.table_plan.specs.Numbers.{variants_from, value_count}
use Rattle.table_plan.proofs.numbering.variants_from.Given as goal

abbrev pub invariant-loop-variant : goal.invariant-loop-variant
invariant-loop-variant l = record {
  made : l.made ≡ variants_from l.initial.next (take l.variant-index l.variants);
  next : l.next ≡ l.initial.next + value_count (take l.variant-index l.variants);
}
