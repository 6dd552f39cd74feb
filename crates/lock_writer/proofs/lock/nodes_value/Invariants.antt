use Rattle.std.proofs.Common.{◌≡◌, ◌++◌, map, drop}
use Rattle.serde_json.specs.View.{view}
use Rattle.lock_writer.specs.Texts.{data_of_node}
use Rattle.lock_writer.proofs.lock.nodes_value.Given as goal

abbrev pub invariant-loop-node : goal.invariant-loop-node
invariant-loop-node l = map view l.values.items ++ map (data_of_node l.graph l.database) (drop l.node-index l.node-items)
    ≡ map (data_of_node l.graph l.database) l.node-items
