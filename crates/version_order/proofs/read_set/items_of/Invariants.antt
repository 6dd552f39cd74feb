use Rattle.std.proofs.Common.{length}
use Rattle.version_order.proofs.SoFarLaws.{IsSoFar}
use Rattle.version_order.proofs.read_set.items_of.Given as goal

abbrev pub invariant-loop-items : goal.invariant-loop-items
invariant-loop-items l = IsSoFar l.text l.items l.rest

abbrev pub decreases-loop-items : goal.decreases-loop-items
decreases-loop-items l = length l.rest
