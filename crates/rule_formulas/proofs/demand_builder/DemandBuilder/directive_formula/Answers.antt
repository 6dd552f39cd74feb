use Rattle.std.proofs.Common.{◌∙◌, filter}
use Rattle.clause_formulas.specs.Statements.{both_statements}
use Rattle.clause_formulas.specs.Rules.{Proposition, both_of}
use Rattle.problem.specs.Problems.{depends_at, conflicts_at, requirements_at}
use Rattle.graph_formulas.specs.Lists.{each_keeps}
use Rattle.graph_formulas.specs.Words.{names_for}
use Rattle.graph_formulas.specs.Terms.{Term}
use Rattle.graph_formulas.specs.Directives.{edge_rule, constraint_rule, conflict_rule, requirement_rule}
use Rattle.graph_formulas.specs.Demands.{directive_rule}
use Rattle.graph_formulas.specs.Laws.{term_formula}
use Rattle.rule_formulas.specs.Paths.{path_by}
use Rattle.word_formulas.proofs.Steps.{ok-same, ok-is, both-same}
use Rattle.std.specs.Prelude.{◌==◌}
use Rattle.rule_formulas.proofs.demand_builder.DemandBuilder.directive_formula.Goals as goal

pub returns : goal.returns
returns g c =
    let table = c.args.self.now.scribe.table.now in
    let problem = c.args.self.now.problem.now in
    let path = path_by table c.args.self.now.paths.now in
    let condition = g.C.MetConditions.condition_of c.args.self.now.conditions.now in
    let name = c.args.name.now in
    let number = c.args.number in
    let said = λ (rule : Proposition Term). term_formula path condition table rule in
    let depends = ok-is c.depends_formula.result c.in_ok-depends.depends
    (said (each_keeps (λ row. both_of (edge_rule problem (names_for table) name row) (constraint_rule problem (names_for table) name row))
    (filter (λ row. row.number == number) (depends_at problem name))))
    c.in_ok-depends.was c.depends_formula.ensures in
    let conflicts = ok-is c.conflicts_formula.result c.in_ok-conflicts.conflicts
    (said (each_keeps (conflict_rule problem (names_for table) name) (filter (λ row. row.number == number) (conflicts_at problem name))))
    c.in_ok-conflicts.was c.conflicts_formula.ensures in
    let requirements = ok-is c.requirements_formula.result c.in_ok-requirements.requirements
    (said (each_keeps (requirement_rule problem (names_for table) name)
    (filter (λ row. row.number == number) (requirements_at problem name)))) c.in_ok-requirements.was c.requirements_formula.ensures in
    let most = c.in_ok-most.ensures ∙ both-same _ _ _ _ depends conflicts in
    ok-same c.both-2.result (both_statements c.in_ok-most.most c.in_ok-requirements.requirements)
    (said (directive_rule problem (names_for table) number name))
    (both-same _ _ _ _ most requirements) c.both-2.ensures
