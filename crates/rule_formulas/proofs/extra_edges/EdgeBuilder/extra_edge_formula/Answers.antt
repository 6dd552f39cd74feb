use Rattle.std.proofs.Common.{◌∙◌}
use Rattle.clause_formulas.specs.Statements.{both_statements}
use Rattle.graph_core.specs.Graphs.{Text}
use Rattle.problem.specs.Problems.{Problem}
use Rattle.graph_formulas.specs.Words.{names_for}
use Rattle.graph_formulas.specs.Edges.{virtual_rule}
use Rattle.graph_formulas.specs.Laws.{virtuals_on}
use Rattle.graph_formulas.specs.Lists.{each_keeps}
use Rattle.word_formulas.proofs.Steps.{ok-same, ok-is, both-same}
use Rattle.rule_formulas.specs.Asking.{kind_said, extra_edge_said}
use Rattle.rule_formulas.specs.Terms.{plain_term}
use Rattle.rule_formulas.specs.declared.extra_edges.EdgeKind.{EdgeKind}
use Rattle.rule_formulas.specs.declared.extra_edges.EdgeKind.TheVariants as edge
use Rattle.rule_formulas.proofs.extra_edges.EdgeBuilder.extra_edge_formula.Goals as goal

pub returns : goal.returns
returns g c =
    let table = c.args.self.now.scribe.table.now in
    let problem = c.args.self.now.problem.now in
    let condition = g.C.MetConditions.condition_of c.args.self.now.conditions.now in
    let rows = c.args.self.now.rows.now in
    let named : Problem × Text = c.args.self.now.named.now in
    let name = c.args.self.now.name.now in
    let child = c.args.child.now in
    let said = λ (kind : EdgeKind). kind_said problem table condition rows kind name child in
    let build = ok-is c.kind_formula.result c.in_ok-build.build (said edge.Build) c.in_ok-build.was c.kind_formula.ensures in
    let link = ok-is c.kind_formula-2.result c.in_ok-link.link (said edge.Link) c.in_ok-link.was c.kind_formula-2.ensures in
    let run = ok-is c.kind_formula-3.result c.in_ok-run.run' (said edge.Run) c.in_ok-run.was c.kind_formula-3.ensures in
    let most = c.in_ok-most.ensures ∙ both-same _ _ _ _ build link in
    let kinds = c.in_ok-kinds.ensures ∙ both-same _ _ _ _ most run in
    let virtuals = ok-is c.virtuals_formula.result c.in_ok-virtuals.virtuals
    (plain_term table condition (each_keeps (virtual_rule named.0 (names_for table) named.1 child) (virtuals_on table named.1 child)))
    c.in_ok-virtuals.was c.virtuals_formula.ensures in
    ok-same c.both-3.result (both_statements c.in_ok-kinds.kinds c.in_ok-virtuals.virtuals)
    (extra_edge_said problem table condition rows named name child)
    (both-same _ _ _ _ kinds virtuals) c.both-3.ensures
