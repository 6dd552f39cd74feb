use Rattle.std.proofs.Common.{◌≡◌, ◌+◌, drop}
use Rattle.std.specs.List.{sum_by}
use Rattle.level_encoding.specs.Encoding.{turns, end}
use Rattle.level_encoding.proofs.arc_rules.end_of.Given as goal

abbrev pub invariant-loop-arc : goal.invariant-loop-arc
invariant-loop-arc l = l.turn + sum_by (turns l.input) (drop l.arc-index l.arc-items) ≡ end l.input
