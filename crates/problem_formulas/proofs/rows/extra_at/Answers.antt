use Rattle.std.proofs.Common.{ap, ◌∙◌}
use Rattle.clause_formulas.specs.Statements.{implication_of}
use Rattle.graph_core.specs.Graphs.{Text}
use Rattle.graph_formulas.specs.Facts.{has_origin}
use Rattle.graph_formulas.specs.Words.{names_for}
use Rattle.problem.specs.Nodes.{builds}
use Rattle.graph_formulas.specs.Edges.{extra_edges_rule}
use Rattle.literal_table.specs.Tables.{children_of}
use Rattle.graph_formulas.specs.Laws.{virtuals_on}
use Rattle.rule_formulas.specs.OfWordFormulas.Builders.{node_said}
use Rattle.rule_formulas.proofs.OfWordFormulas.Steps.{ok-same, ok-is, implies-same}
use Rattle.rule_formulas.specs.Terms.{plain_term}
use Rattle.problem_formulas.proofs.rows.extra_at.Goals as goal

pub returns : goal.returns
returns g c =
    let table = c.args.table.now in
    let problem = c.args.problem.now in
    let condition = g.C.MetConditions.condition_of c.args.conditions.now in
    let name = c.args.name.now in
    let said = λ (n : Text). plain_term table condition
    (extra_edges_rule problem (names_for table) (virtuals_on table n) (children_of table n) n) in
    let built = λ (n : Text). node_said table n (has_origin builds) in
    let rule = ok-is c.extra_edges_formula.result c.in_ok-rule.rule (said c.as_str.result.now) c.in_ok-rule.was
    c.extra_edges_formula.ensures ∙ ap said c.as_str.ensures in
    ok-same c.where_built.result (implication_of (built c.as_str-2.result.now) c.in_ok-rule.rule) (implication_of (built name) (said name))
    (implies-same _ _ _ _ (ap built c.as_str-2.ensures) rule) c.where_built.ensures
