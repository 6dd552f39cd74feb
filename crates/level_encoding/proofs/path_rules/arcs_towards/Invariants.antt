use Rattle.std.proofs.Common.{◌≡◌, take}
use Rattle.std.specs.List.{filter}
use Rattle.level_encoding.specs.Towards.{may_begin}
use Rattle.level_encoding.proofs.path_rules.arcs_towards.Given as goal

abbrev pub invariant-loop-arc : goal.invariant-loop-arc
invariant-loop-arc l = l.arcs.items ≡ filter (may_begin l.input l.q) (take l.arc-index l.arc-items)
