use Rattle.std.proofs.Common.{ap, ◌∙◌}
use Rattle.graph_core.specs.Graphs.{Text}
use Rattle.graph_formulas.specs.Built.{provider_rule}
use Rattle.word_formulas.specs.Builders.{plain_said}
use Rattle.word_formulas.proofs.Steps.{ok-same, implies-same}
use Rattle.node_formulas.specs.Rows.{provided_said}
use Rattle.node_formulas.proofs.provider_rows.provider_at.Goals as goal

pub returns : goal.returns
returns c =
    let table = c.args.table.now in
    let v = c.args.virtual_name.now in
    let said = λ (n : Text). provided_said table v n (plain_said table (provider_rule c.args.problem.now (v, n))) in
    ok-same c.implies.result _ (said c.args.choice.now.0)
    (implies-same _ _ _ _ c.in_ok-chosen.ensures c.in_ok-kept.ensures ∙ ap said c.as_str-name.ensures) c.implies.ensures
