use Rattle.std.proofs.Common.{take}
use Rattle.install_plan.specs.Children.{AreBuiltArcs}
use Rattle.install_plan.proofs.children.built_arcs.Given as goal

abbrev pub invariant-loop-edge : goal.invariant-loop-edge
invariant-loop-edge l = AreBuiltArcs l.graph (take l.edge-index l.edge-items) l.arcs.items
