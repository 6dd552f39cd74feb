use Rattle.std.proofs.Common.{◌≡◌, take}
use Rattle.std.specs.List.{flat_map}
use Rattle.table_plan.specs.Plans.{wanted_names}
use Rattle.table_building.proofs.wanted.asked_names.Given as goal

abbrev pub invariant-loop-name : goal.invariant-loop-name
invariant-loop-name l = l.asked.items ≡ flat_map (wanted_names l.problem) (take l.name-index l.names)
