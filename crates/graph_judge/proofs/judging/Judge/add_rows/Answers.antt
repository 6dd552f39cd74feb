use Rattle.graph_judge.specs.Places.{unless}
use Rattle.problem.proofs.NumberLaws.{flat_step}
use Rattle.graph_judge.proofs.judging.Judge.add_rows.Goals as goal

pub loop-row-preserved : goal.loop-row-preserved
loop-row-preserved g c =
    let rule = c.args.rule.now in
    let node = c.args.node.now in
    flat_step (λ row. unless (g.R.RowRule.keeps rule c.args.self.now node row) (node.name, g.R.RowRule.number rule row))
    c.args.rows.now c.loop-row.row-index c.row-item.result _ _ _ c.loop-row-test.true c.row-item.is
    (rw (c.as_str.ensures, c.number.ensures, c.in_ok-kept.ensures) at c.in_ok-add_unless.ensures) c.loop-row.invariant
