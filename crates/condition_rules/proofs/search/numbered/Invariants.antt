use Rattle.std.proofs.Common.{map, take}
use Rattle.virtuals.specs.OfReachability.Places.{AreNumbered}
use Rattle.virtuals.specs.OfGraphCore.Graphs.{name_of, ends_of}
use Rattle.condition_rules.proofs.search.numbered.Given as goal

abbrev pub invariant-loop-edge : goal.invariant-loop-edge
invariant-loop-edge l = AreNumbered (map name_of l.graph.nodes) (map ends_of (take l.edge-index l.edge-items)) l.numbers.items
