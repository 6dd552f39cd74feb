use Rattle.std.proofs.Common.{◌∙◌}
use Rattle.graph_judge.proofs.Lists.{rows_flat}
use Rattle.graph_judge.proofs.judging.Judge.row_places.Goals as goal

pub returns : goal.returns
returns g c =
    let rule = c.args.rule.now in
    let judging = c.args.self.now in
    rw (c.new-places.ensures.items, c.nodes.ensures) at c.in_ok-add_all_rows.ensures
    ∙ rows_flat (g.R.RowRule.rows rule judging.problem) (g.R.RowRule.number rule) (g.R.RowRule.keeps rule judging) judging.graph.nodes
