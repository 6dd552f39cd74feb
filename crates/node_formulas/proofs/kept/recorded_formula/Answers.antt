use Rattle.std.proofs.Common.{ap, ◌∙◌, Bool}
use Rattle.clause_formulas.specs.Rules.{fact, if_so}
use Rattle.graph_core.specs.Graphs.{Text}
use Rattle.graph_core.specs.declared.node.Kinds.{Kinds}
use Rattle.graph_formulas.specs.Facts.{has_edge}
use Rattle.graph_formulas.specs.Lists.{settled_test}
use Rattle.graph_formulas.specs.Kept.{is_child_name}
use Rattle.word_formulas.specs.Builders.{plain_said}
use Rattle.word_formulas.proofs.Steps.{ok-same}
use Rattle.node_formulas.specs.Attributes.{edge_rule}
use Rattle.node_formulas.proofs.kept.recorded_formula.Goals as goal

pub returns : goal.returns
returns c =
    let table = c.args.table.now in
    let name = c.args.name.now in
    let entry = c.args.entry.now in
    let child = c.as_str-child.result.now in
    ok-same c.only_recorded.result _ (plain_said table (edge_rule c.args.problem.now name entry c.args.child.now))
    (ap (λ (b : Bool). plain_said table (if_so (fact (has_edge name child c.no_kinds.result)) (settled_test b)))
    c.is_child_name-recorded.ensures
    ∙ ap (λ (k : Kinds). plain_said table (if_so (fact (has_edge name child k))
    (settled_test (is_child_name c.args.problem.now entry child)))) c.no_kinds.ensures
    ∙ ap (λ (n : Text). plain_said table (edge_rule c.args.problem.now name entry n)) c.as_str-child.ensures)
    c.only_recorded.ensures
