use Rattle.std.proofs.Common.{◌≡◌, take}
use Rattle.std.specs.List.{filter}
use Rattle.explain_failure.specs.Uses.{stands}
use Rattle.reason_minimum.proofs.numbers.those_of.Given as goal

abbrev pub invariant-loop-number : goal.invariant-loop-number
invariant-loop-number l = l.kept.items ≡ filter (stands l.others) (take l.number-index l.numbers)
