use Rattle.std.proofs.Common.{◌≡◌, length}
use Rattle.std.specs.Cmp.Lexicographic.{slice_cmp}
use Rattle.version_order.specs.Pieces.{pieces}
use Rattle.version_order.specs.Component.{component_cmp}
use Rattle.version_order.specs.Order.{release}
use Rattle.version_order.proofs.order.compare_releases.Given as goal

abbrev pub invariant-loop-x : goal.invariant-loop-x
invariant-loop-x l = slice_cmp component_cmp (release (pieces l.left)) (release (pieces l.right)) ≡ slice_cmp component_cmp
    (release (pieces l.a)) (release (pieces l.b))

abbrev pub decreases-loop-x : goal.decreases-loop-x
decreases-loop-x l = length l.left
