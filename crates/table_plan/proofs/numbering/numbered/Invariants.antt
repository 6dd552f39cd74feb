use Rattle.std.proofs.Common.{◌≡◌, ◌+◌, take}
use Rattle.table_plan.specs.Numbers.{numbered, total_width}
use Rattle.table_plan.proofs.numbering.numbered.Given as goal

abbrev pub invariant-loop-item : goal.invariant-loop-item
invariant-loop-item g l = record {
  choices : l.choices ≡ numbered l.initial.next (take l.item-index l.items);
  next : l.next ≡ l.initial.next + total_width (λ x. 1) (take l.item-index l.items);
}
