use Rattle.std.proofs.Common.{◌≡◌, take}
use Rattle.keyed_lists.specs.Lent.{lent}
use Rattle.table_building.specs.Parts.{answers_in}
use Rattle.table_building.proofs.edges.answers_in.Given as goal

abbrev pub invariant-loop-name : goal.invariant-loop-name
invariant-loop-name l = lent l.entries.items ≡ answers_in l.problem (take l.name-index l.wanted)
