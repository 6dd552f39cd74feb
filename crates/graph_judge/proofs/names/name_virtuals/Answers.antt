use Rattle.std.proofs.Common.{refl}
use Rattle.graph_rules.specs.Named.{named_edge}
use Rattle.graph_judge.proofs.NamedLaws.{still_graph}
use Rattle.graph_judge.proofs.names.name_virtuals.Goals as goal

-- the lists are those of the graph, where only what edges name is another
pub from_parts-requires : goal.from_parts-requires
from_parts-requires c =
    rw (
      c.in_ok-nodes.ensures,
      c.in_ok-edges.ensures,
      c.in_ok-providers.ensures,
      c.nodes.ensures.nodes,
      c.providers.ensures.providers,
    )
    (still_graph (named_edge c.args.problem.now c.args.graph.now) (λ e. refl) c.args.graph.now c.nodes.ensures.graph)
