use Rattle.std.proofs.Common.{◌≡◌, take}
use Rattle.reason_minimum.specs.Parts.{without_number}
use Rattle.reason_minimum.proofs.numbers.without_number.Given as goal

abbrev pub invariant-loop-other : goal.invariant-loop-other
invariant-loop-other l = l.kept.items ≡ without_number l.number (take l.other-index l.numbers)
