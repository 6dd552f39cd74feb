use Rattle.std.proofs.Common.{◌≡◌, ◌+◌, drop, length}
use Rattle.version_order.specs.Items.{first_empty, spell_more}
use Rattle.version_order.proofs.read_set.first_empty.Given as goal

abbrev pub invariant-loop-item : goal.invariant-loop-item
invariant-loop-item l = record {
  so_far : first_empty l.place (drop l.item-index l.items) ≡ first_empty 0 l.items;
  bound : l.place + length (spell_more (drop l.item-index l.items)) ≡ length (spell_more l.items);
}
