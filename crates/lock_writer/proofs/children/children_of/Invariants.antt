use Rattle.std.proofs.Common.{take}
use Rattle.std.specs.List.{AllZip}
use Rattle.graph_core.specs.Graphs.{edges_from}
use Rattle.lock_writer.specs.Known.{AreChildren}
use Rattle.lock_writer.proofs.children.children_of.Given as goal

abbrev pub invariant-loop-node : goal.invariant-loop-node
invariant-loop-node l = AllZip (λ node places. AreChildren l.graph (edges_from l.graph node.name) places) (take l.node-index l.node-items)
    l.children.items
