use Rattle.graph_core.specs.declared.node.Node.{Node}
use Rattle.graph_judge.specs.Rows.{row_places}
use Rattle.problem.proofs.NumberLaws.{flat_step}
use Rattle.graph_judge.proofs.judging.Judge.add_all_rows.Goals as goal

pub loop-node-preserved : goal.loop-node-preserved
loop-node-preserved g c =
    let rule = c.args.rule.now in
    let judging = c.args.self.now in
    flat_step (λ (n : Node). row_places (g.R.RowRule.number rule) (g.R.RowRule.keeps rule judging) n
    (g.R.RowRule.rows rule judging.problem n.name)) c.args.nodes.now
    c.loop-node.node-index c.node-item.result _ _ _ c.loop-node-test.true c.node-item.is
    (rw (c.rows-rows.ensures, c.problem.ensures, c.as_str.ensures) at c.in_ok-add_rows.ensures) c.loop-node.invariant
