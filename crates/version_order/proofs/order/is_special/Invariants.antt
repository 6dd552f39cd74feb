use Rattle.std.proofs.Common.{◌≡◌, length}
use Rattle.version_order.specs.Prefix.{is_special}
use Rattle.version_order.proofs.order.is_special.Given as goal

abbrev pub invariant-loop-piece : goal.invariant-loop-piece
invariant-loop-piece l = is_special l.rest ≡ is_special l.text

abbrev pub decreases-loop-piece : goal.decreases-loop-piece
decreases-loop-piece l = length l.rest
