use Rattle.std.proofs.Common.{◌∙◌}
use Rattle.graph_core.specs.declared.node.Node.{Node}
use Rattle.graph_rules.specs.Verdict.{Place}
use Rattle.graph_judge.specs.Places.{keeps_at}
use Rattle.graph_judge.proofs.Lists.{flat_unless}
use Rattle.graph_judge.proofs.judging.Judge.node_places.Goals as goal

pub returns : goal.returns
returns c = rw (c.new-places.ensures.items, c.nodes.ensures) at c.in_ok-add_nodes.ensures
    ∙ flat_unless (keeps_at c.args.rule c.args.self.now.problem c.args.self.now.graph) (λ (n : Node). let p : Place = (n.name, 0) in
    p) c.args.self.now.graph.nodes
