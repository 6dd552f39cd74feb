use Rattle.std.proofs.Common.{◌≡◌, take}
use Rattle.std.specs.List.{filter}
use Rattle.virtuals.specs.Virtuals.{is_virtual}
use Rattle.table_building.proofs.wanted.only_virtuals.Given as goal

abbrev pub invariant-loop-name : goal.invariant-loop-name
invariant-loop-name l = l.words.items ≡ filter (is_virtual l.problem.recipes) (take l.name-index l.asked)
