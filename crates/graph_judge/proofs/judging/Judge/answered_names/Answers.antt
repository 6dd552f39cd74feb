use Rattle.problem.proofs.NumberLaws.{flat_step}
use Rattle.graph_judge.specs.Answered.{answered}
use Rattle.graph_judge.proofs.judging.Judge.answered_names.Goals as goal

pub loop-row-preserved : goal.loop-row-preserved
loop-row-preserved c =
    flat_step (answered c.args.self.now.problem c.args.self.now.graph c.args.node.now c.args.child.now) c.args.rows.now c.loop-row.row-index
    c.row-item.result _ _ _ c.loop-row-test.true c.row-item.is c.in_ok-add_answered.ensures c.loop-row.invariant
