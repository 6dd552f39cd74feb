use Rattle.std.proofs.Common.{ap, sym, ◌∙◌, ◌+◌, ◌∷◌, drop}
use Rattle.std.proofs.lemmas.List.{drop_all}
use Rattle.variant_values.specs.Texts.{byte_cmp}
use Rattle.graph_core.specs.Graphs.{name_of}
use Rattle.lockfile.specs.Locks.{graph_nodes}
use Rattle.lockfile.proofs.Adding.{none_left, one_less}
use Rattle.lockfile.proofs.EdgeLaws.{drop_one}
use Rattle.lockfile.proofs.graph.graph_of_nodes.Goals as goal

pub loop-node-preserved : goal.loop-node-preserved
loop-node-preserved c =
    let nodes = c.args.nodes.now in
    let i = c.loop-node.node-index in
    let rest = graph_nodes (drop (i + 1) nodes) in
    let first = ap graph_nodes (drop_one nodes i c.node-item.result c.loop-node-test.true c.node-item.is)
    ∙ ap (λ node. node ∷ rest) (sym c.in_ok-made.ensures) in
    record {
      nodes = one_less byte_cmp name_of c.loop-node.graph.nodes c.push_node.new.graph.nodes (graph_nodes (drop i nodes)) rest
          (graph_nodes nodes) c.in_ok-made.made c.in_ok-push_node.ensures.nodes first c.loop-node.invariant.nodes;
      edges = c.in_ok-push_node.ensures.edges ∙ c.loop-node.invariant.edges;
      providers = c.in_ok-push_node.ensures.providers ∙ c.loop-node.invariant.providers;
    }

pub returns-clause-nodes : goal.returns-clause-nodes
returns-clause-nodes c =
    none_left byte_cmp name_of c.loop-node.graph.nodes (graph_nodes (drop c.loop-node.node-index c.args.nodes.now))
    (graph_nodes c.args.nodes.now)
    (ap graph_nodes (drop_all c.loop-node.node-index c.args.nodes.now c.loop-node-test.false)) c.loop-node.invariant.nodes
