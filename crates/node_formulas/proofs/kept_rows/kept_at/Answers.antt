use Rattle.std.proofs.Common.{ap, ◌∙◌}
use Rattle.graph_core.specs.Graphs.{Text}
use Rattle.graph_formulas.specs.Facts.{is_there}
use Rattle.graph_formulas.specs.Kept.{kept_rule, origins_of}
use Rattle.graph_formulas.specs.Laws.{children_of}
use Rattle.word_formulas.specs.Builders.{node_said, plain_said}
use Rattle.word_formulas.proofs.Steps.{ok-same, implies-same}
use Rattle.node_formulas.specs.Rows.{there_said}
use Rattle.node_formulas.proofs.kept_rows.kept_at.Goals as goal

pub returns : goal.returns
returns c =
    let table = c.args.table.now in
    let name = c.args.name.now in
    ok-same c.implies.result _ (there_said table name
    (plain_said table (kept_rule c.args.problem.now (children_of table name) (origins_of table name) name)))
    (implies-same _ _ _ _ (c.is_there-there.ensures ∙ ap (λ (n : Text). node_said table n is_there) c.as_str.ensures) c.in_ok-kept.ensures)
    c.implies.ensures
