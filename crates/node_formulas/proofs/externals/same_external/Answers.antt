use Rattle.std.proofs.Common.{ap, ◌∙◌}
use Rattle.graph_core.specs.Graphs.{Text}
use Rattle.graph_core.specs.declared.node.Node.{Node}
use Rattle.graph_rules.specs.Kept.{external_node}
use Rattle.graph_formulas.specs.Kept.{same_rule}
use Rattle.word_formulas.specs.Builders.{plain_said}
use Rattle.word_formulas.proofs.Steps.{ok-same}
use Rattle.node_formulas.proofs.externals.same_external.Goals as goal

pub returns : goal.returns
returns c =
    let table = c.args.table.now in
    let whole = external_node c.args.problem.now c.args.name.now c.args.place c.args.entry.now in
    ok-same c.same_formula.result _ (plain_said table (same_rule c.args.name.now whole))
    (ap (λ (k : Node). plain_said table (same_rule c.as_str.result.now k)) c.in_ok-node.ensures
    ∙ ap (λ (n : Text). plain_said table (same_rule n whole)) c.as_str.ensures)
    c.same_formula.ensures
