use Rattle.std.proofs.Common.{refl}
use Rattle.graph_core.proofs.GraphLaws.{graph-after_provider}
use Rattle.graph_core.proofs.graph.Graph.set_provider.Goals as goal

pub invariant_of-self : goal.invariant_of-self
invariant_of-self c =
    graph-after_provider _ c.self.invariant _ c.args.name c.args.provider _
    (rw (c.as_str.ensures, ← c.self.view_is) at (c.if-not-has_node.ensures.0 refl)) c.insert.ensures.new c.insert.ensures.err
