use Rattle.std.proofs.lemmas.List.{length-map}
use Rattle.keyed_lists.proofs.OfReachability.HeadLaws.{numbers_within}
use Rattle.keyed_lists.proofs.OfReachability.TableLaws.{key_table}
use Rattle.graph_core.specs.Graphs.{name_of}
use Rattle.graph_core.proofs.PathLaws.{names_once}
use Rattle.graph_core.proofs.reach.Reach.new.Goals as goal

pub new-requires : goal.new-requires
new-requires c = rw (c.as_slice.ensures.value, c.nodes.ensures.nodes, ← length-map c.args.graph.now.nodes name_of)
    (numbers_within _ _ _ c.in_ok-arcs.ensures)

pub invariant_of-result : goal.invariant_of-result
invariant_of-result c = record {
  graph = c.nodes.ensures.graph;
  table = key_table _ _ _ _ c.in_ok-arcs.ensures (names_once _ c.nodes.ensures.graph)
      (rw (c.as_slice.ensures.value, c.nodes.ensures.nodes, ← length-map c.args.graph.now.nodes name_of) at c.in_ok-table.ensures);
}
