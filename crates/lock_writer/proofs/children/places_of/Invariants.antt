use Rattle.std.proofs.Common.{take}
use Rattle.lock_writer.specs.Known.{AreChildren}
use Rattle.lock_writer.proofs.children.places_of.Given as goal

abbrev pub invariant-loop-edge : goal.invariant-loop-edge
invariant-loop-edge l = AreChildren l.graph (take l.edge-index l.edges) l.places
