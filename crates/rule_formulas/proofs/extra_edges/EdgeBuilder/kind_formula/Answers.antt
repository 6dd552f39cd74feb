use Rattle.std.proofs.Common.{ap, ◌∙◌}
use Rattle.clause_formulas.specs.Statements.{implication_of}
use Rattle.clause_formulas.specs.Rules.{fact}
use Rattle.graph_core.specs.declared.node.Kinds.{Kinds}
use Rattle.graph_formulas.specs.Facts.{has_edge}
use Rattle.word_formulas.specs.Builders.{plain_said}
use Rattle.word_formulas.proofs.Steps.{ok-same, ok-is, implies-same}
use Rattle.rule_formulas.specs.Asking.{asking_said, kind_said}
use Rattle.rule_formulas.proofs.extra_edges.EdgeBuilder.kind_formula.Goals as goal

pub returns : goal.returns
returns g c =
    let table = c.args.self.now.scribe.table.now in
    let problem = c.args.self.now.problem.now in
    let condition = g.C.MetConditions.condition_of c.args.self.now.conditions.now in
    let rows = c.args.self.now.rows.now in
    let name = c.args.self.now.name.now in
    let child = c.args.child.now in
    let kind = c.args.kind in
    let there = λ (kinds : Kinds). plain_said table (fact (has_edge name child kinds)) in
    let edge = ok-is c.has_edge.result c.in_ok-edge.edge (there c.kinds_of-kinds.result) c.in_ok-edge.was c.has_edge.ensures
    ∙ ap there c.kinds_of-kinds.ensures in
    let asked = ok-is c.asking_formula.result c.in_ok-asked.asked (asking_said problem table condition rows kind name child)
    c.in_ok-asked.was c.asking_formula.ensures in
    ok-same c.implies.result (implication_of c.in_ok-edge.edge c.in_ok-asked.asked)
    (kind_said problem table condition rows kind name child)
    (implies-same _ _ _ _ edge asked) c.implies.ensures
