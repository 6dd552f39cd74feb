use Rattle.std.proofs.Common.{◌≡◌, take}
use Rattle.std.specs.List.{flat_map}
use Rattle.keyed_lists.specs.Lent.{lent}
use Rattle.table_building.proofs.variants.words_of.Given as goal

abbrev pub invariant-loop-entry : goal.invariant-loop-entry
invariant-loop-entry l = l.words.items ≡ flat_map (λ e. e.1) (lent (take l.entry-index l.run))
