use Rattle.graph_judge.proofs.names.all_named.Goals as goal

pub returns : goal.returns
returns c = rw (c.new-judge.ensures, c.in_ok-explored.ensures, c.edges.ensures.edges) at c.named_edges.ensures
