use Rattle.std.proofs.Common.{◌≡◌, length}
use Rattle.version_order.specs.Prefix.{is_prefix}
use Rattle.version_order.proofs.order.is_prefix.Given as goal

abbrev pub invariant-loop-x : goal.invariant-loop-x
invariant-loop-x l = is_prefix l.left l.right ≡ is_prefix l.a l.b

abbrev pub decreases-loop-x : goal.decreases-loop-x
decreases-loop-x l = length l.left
