use Rattle.std.proofs.Common.{◌≡◌, map, take}
use Rattle.level_encoding.specs.Input.{arc_ends}
use Rattle.level_encoding.proofs.arcs.pairs.Given as goal

abbrev pub invariant-loop-arc : goal.invariant-loop-arc
invariant-loop-arc l = l.pairs.items ≡ map arc_ends (take l.arc-index l.arc-items)
