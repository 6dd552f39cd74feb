use Rattle.std.proofs.Common.{◌≡◌, ◌++◌, take, map}
use Rattle.keyed_lists.specs.Lent.{lent}
use Rattle.table_building.proofs.edges.add_answers.Given as goal

abbrev pub invariant-loop-pair : goal.invariant-loop-pair
invariant-loop-pair l = lent l.entries.items ≡ lent l.initial.entries.items
    ++ map (λ provider. (provider, l.name)) (map (λ pair. pair.1) (take l.pair-index l.pairs))
