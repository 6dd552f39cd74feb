use Rattle.std.proofs.Common.{◌≡◌, ◌++◌, map, drop}
use Rattle.lock_writer.specs.Hashes.{child_of, node_hash}
use Rattle.lock_writer.proofs.record.dependencies_of.Given as goal

abbrev pub invariant-loop-edge : goal.invariant-loop-edge
invariant-loop-edge l = l.list ++ map (child_of (node_hash l.graph)) (drop l.edge-index l.edges)
    ≡ map (child_of (node_hash l.graph)) l.edges
