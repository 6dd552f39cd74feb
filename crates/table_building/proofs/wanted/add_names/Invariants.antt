use Rattle.std.proofs.Common.{◌≡◌, ◌++◌, ◌||◌, take}
use Rattle.std.specs.List.{filter, flat_map}
use Rattle.table_building.proofs.wanted.add_names.Given as goal

abbrev pub invariant-loop-dependency : goal.invariant-loop-dependency
invariant-loop-dependency l = l.wanted.items
    ≡ l.initial.wanted.items ++ flat_map (λ d. d.virtuals)
    (filter (λ d. d.kinds.link || d.kinds.run) (take l.dependency-index l.dependencies))
