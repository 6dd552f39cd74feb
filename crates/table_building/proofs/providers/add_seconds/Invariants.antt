use Rattle.std.proofs.Common.{◌≡◌, ◌++◌, take, map}
use Rattle.table_building.proofs.providers.add_seconds.Given as goal

abbrev pub invariant-loop-pair : goal.invariant-loop-pair
invariant-loop-pair l = l.words.items ≡ l.initial.words.items ++ map (λ pair. pair.1) (take l.pair-index l.pairs)
