use Rattle.std.proofs.Common.{◌≡◌, ◌++◌, drop}
use Rattle.graph_judge.specs.Places.{keeps_at, nodes_places}
use Rattle.graph_judge.proofs.judging.Judge.add_nodes.Given as goal

abbrev pub invariant-loop-node : goal.invariant-loop-node
invariant-loop-node l = l.places.items ++ nodes_places (keeps_at l.rule l.self.problem l.self.graph) (drop l.node-index l.nodes) ≡ l.fn.places.items
    ++ nodes_places (keeps_at l.rule l.self.problem l.self.graph) l.nodes
