use Rattle.std.proofs.Common.{sym, ◌∙◌}
use Rattle.clause_formulas.specs.Statements.{both_statements, implication_of}
use Rattle.clause_formulas.specs.Rules.{both_of}
use Rattle.graph_formulas.specs.Words.{names_for}
use Rattle.graph_formulas.specs.Directives.{edge_to, suits_asked, edge_rule, constraint_rule}
use Rattle.graph_formulas.specs.Laws.{term_formula}
use Rattle.rule_formulas.specs.Paths.{path_by}
use Rattle.word_formulas.specs.Builders.{plain_said}
use Rattle.word_formulas.proofs.PathFreeRows.{edge-agree, suits_asked-agree}
use Rattle.word_formulas.proofs.Steps.{ok-same, ok-is, both-same, implies-same}
use Rattle.rule_formulas.proofs.demand_builder.DemandBuilder.depend_formula.Goals as goal

pub returns : goal.returns
returns g c =
    let table = c.args.self.now.scribe.table.now in
    let problem = c.args.self.now.problem.now in
    let path = path_by table c.args.self.now.paths.now in
    let condition = g.C.MetConditions.condition_of c.args.self.now.conditions.now in
    let name = c.args.name.now in
    let row = c.args.row.now in
    let goes = plain_said table (edge_to problem (names_for table) name row) in
    let suits = plain_said table (suits_asked problem (names_for table) row) in
    let met = ok-is c.met.result c.in_ok-met.met (condition name row.when) c.in_ok-met.was c.met.ensures in
    let again = ok-is c.met-2.result c.in_ok-again.again (condition name row.when) c.in_ok-again.was c.met-2.ensures in
    let edge = ok-is c.edge_formula.result c.in_ok-edge.edge (implication_of c.in_ok-met.met goes) c.in_ok-edge.was c.edge_formula.ensures
    ∙ implies-same _ _ _ _ met (sym (edge-agree path table problem (names_for table) name row)) in
    let constraint = ok-is c.constraint_formula.result c.in_ok-constraint.constraint (implication_of c.in_ok-again.again suits)
    c.in_ok-constraint.was c.constraint_formula.ensures
    ∙ implies-same _ _ _ _ again (sym (suits_asked-agree path table problem (names_for table) row)) in
    ok-same c.both.result (both_statements c.in_ok-edge.edge c.in_ok-constraint.constraint)
    (term_formula path condition table (both_of (edge_rule problem (names_for table) name row)
    (constraint_rule problem (names_for table) name row)))
    (both-same _ _ _ _ edge constraint) c.both.ensures
