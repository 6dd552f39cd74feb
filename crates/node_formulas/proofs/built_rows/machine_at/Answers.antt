use Rattle.std.proofs.Common.{ap, ◌∙◌}
use Rattle.graph_core.specs.Graphs.{Text}
use Rattle.graph_formulas.specs.Built.{machine_rule}
use Rattle.word_formulas.specs.Builders.{plain_said}
use Rattle.word_formulas.proofs.Steps.{ok-same}
use Rattle.node_formulas.specs.Rows.{built_said}
use Rattle.node_formulas.proofs.built_rows.machine_at.Goals as goal

pub returns : goal.returns
returns c =
    let table = c.args.table.now in
    let rule = λ (n : Text). plain_said table (machine_rule c.args.problem.now n) in
    ok-same c.where_built.result _ (built_said table c.args.name.now (rule c.args.name.now))
    (ap (built_said table c.as_str-name.result.now) c.in_ok-rule.ensures
    ∙ ap (λ (n : Text). built_said table n (rule n)) c.as_str-name.ensures)
    c.where_built.ensures
