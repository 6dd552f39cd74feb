use Rattle.std.proofs.Common.{◌≡◌, length}
use Rattle.version_order.specs.Pieces.{pieces}
use Rattle.version_order.specs.Order.{pre_release}
use Rattle.version_order.proofs.order.pre_release.Given as goal

abbrev pub invariant-loop-after : goal.invariant-loop-after
invariant-loop-after l = pre_release (pieces l.rest) ≡ pre_release (pieces l.text)

abbrev pub decreases-loop-after : goal.decreases-loop-after
decreases-loop-after l = length l.rest
