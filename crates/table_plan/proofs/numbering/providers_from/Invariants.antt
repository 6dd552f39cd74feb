use Rattle.std.proofs.Common.{◌≡◌, ◌+◌, take}
use Rattle.table_plan.specs.Numbers.{providers_from, value_count}
use Rattle.table_plan.proofs.numbering.providers_from.Given as goal

abbrev pub invariant-loop-asked : goal.invariant-loop-asked
invariant-loop-asked l = record {
  made : l.providers.items ≡ providers_from l.initial.next (take l.asked-index l.virtuals);
  next : l.next ≡ l.initial.next + value_count (take l.asked-index l.virtuals);
}
