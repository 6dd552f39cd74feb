use Rattle.std.proofs.Common.{◌≡◌, ◌++◌, drop, map}
use Rattle.graph_rules.specs.Named.{named_edge}
use Rattle.graph_judge.proofs.judging.Judge.named_edges.Given as goal

abbrev pub invariant-loop-edge : goal.invariant-loop-edge
invariant-loop-edge l = l.made.items ++ map (named_edge l.self.problem l.self.graph) (drop l.edge-index l.edges)
    ≡ map (named_edge l.self.problem l.self.graph) l.edges
