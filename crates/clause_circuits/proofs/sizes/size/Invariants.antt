use Rattle.std.proofs.Common.{◌≡◌, ◌+◌, ◌-◌}
use Rattle.clause_circuits.specs.Binary.{size_below, size}
use Rattle.clause_circuits.proofs.sizes.size.Given as goal

abbrev pub invariant-loop-bits : goal.invariant-loop-bits
invariant-loop-bits l = l.bits + size_below (63 - l.bits) l.left ≡ size l.number
