use Rattle.graph_core.proofs.GivenLaws.{made_graph, made_node, made_edge, made_provider, given_graph, each-node, sum-nodes, each-provider, edges-by}
use Rattle.graph_core.proofs.theorems.given_laws.Goals as goal

pub returns : goal.returns
returns c = record {
  graph = λ names virtuals rising rising_virtuals given is. made_graph names virtuals given rising is rising_virtuals;
  node = λ names virtuals rising given is. made_node names virtuals given rising is;
  edge = λ names virtuals rising given is. made_edge names virtuals given rising is;
  provider = λ names virtuals rising given. made_provider names virtuals given rising;
  whole = λ names virtuals rising rising_virtuals g graph within. given_graph g graph names rising within virtuals rising_virtuals;
  each_node = λ names rising g graph within. each-node g graph names rising within;
  sum_nodes = λ names rising g graph within. sum-nodes g graph names rising within;
  each_provider = λ virtuals rising g graph. each-provider g graph virtuals rising;
  edges = λ names rising g graph within. edges-by g graph names rising within;
}
