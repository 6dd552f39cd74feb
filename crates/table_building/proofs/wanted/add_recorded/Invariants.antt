use Rattle.std.proofs.Common.{◌≡◌, ◌++◌, take, map}
use Rattle.std.specs.List.{flat_map}
use Rattle.keyed_lists.specs.Lent.{lent}
use Rattle.table_plan.specs.Plans.{recorded_names}
use Rattle.table_building.proofs.wanted.add_recorded.Given as goal

abbrev pub invariant-loop-entry : goal.invariant-loop-entry
invariant-loop-entry l = l.wanted.items
    ≡ l.initial.wanted.items ++ flat_map recorded_names (map (λ e. e.1) (lent (take l.entry-index l.records)))
