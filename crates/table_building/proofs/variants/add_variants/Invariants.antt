use Rattle.std.proofs.Common.{◌≡◌, ◌++◌, take}
use Rattle.keyed_lists.specs.Lent.{lent}
use Rattle.table_building.proofs.variants.add_variants.Given as goal

abbrev pub invariant-loop-variant : goal.invariant-loop-variant
invariant-loop-variant l = lent l.entries.items ≡ lent l.initial.entries.items ++ take l.variant-index l.variants
