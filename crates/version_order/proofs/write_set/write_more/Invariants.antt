use Rattle.std.proofs.Common.{◌≡◌, ◌++◌, take}
use Rattle.version_order.specs.Items.{spell_more}
use Rattle.version_order.proofs.write_set.write_more.Given as goal

abbrev pub invariant-loop-item : goal.invariant-loop-item
invariant-loop-item l = l.out.items ≡ l.initial.out.items ++ spell_more (take l.item-index l.items)
