use Rattle.graph_core.specs.declared.node.Node.{Node}
use Rattle.graph_judge.specs.Places.{unless, keeps_at}
use Rattle.problem.proofs.NumberLaws.{flat_step}
use Rattle.graph_judge.proofs.judging.Judge.add_nodes.Goals as goal

pub loop-node-preserved : goal.loop-node-preserved
loop-node-preserved c = flat_step (λ (n : Node). unless (keeps_at c.args.rule c.args.self.now.problem c.args.self.now.graph n) (n.name, 0))
    c.args.nodes.now c.loop-node.node-index c.node-item.result _ _ _ c.loop-node-test.true c.node-item.is
    (rw (c.as_str.ensures, c.in_ok-kept.ensures) at c.in_ok-add_unless.ensures) c.loop-node.invariant
