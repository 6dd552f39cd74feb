use Rattle.std.proofs.Common.{◌∙◌}
use Rattle.clause_formulas.specs.Statements.{implication_of}
use Rattle.problem.specs.Problems.{world_of}
use Rattle.graph_formulas.specs.Words.{names_for}
use Rattle.graph_formulas.specs.Directives.{requirement_rule}
use Rattle.graph_formulas.specs.Laws.{term_formula}
use Rattle.rule_formulas.specs.Paths.{path_by}
use Rattle.word_formulas.proofs.Steps.{ok-same, ok-is, implies-same}
use Rattle.rule_formulas.specs.Terms.{choice_said}
use Rattle.rule_formulas.proofs.Lists.{choice-known}
use Rattle.rule_formulas.proofs.demand_builder.DemandBuilder.requirement_formula.Goals as goal

pub returns : goal.returns
returns g c =
    let table = c.args.self.now.scribe.table.now in
    let problem = c.args.self.now.problem.now in
    let path = path_by table c.args.self.now.paths.now in
    let condition = g.C.MetConditions.condition_of c.args.self.now.conditions.now in
    let name = c.args.name.now in
    let row = c.args.row.now in
    let met = ok-is c.met.result c.in_ok-met.met (condition name row.when) c.in_ok-met.was c.met.ensures in
    let choice = ok-is c.choice_formula.result c.in_ok-choice.choice (choice_said path table (world_of problem) name row) c.in_ok-choice.was
    c.choice_formula.ensures
    ∙ choice-known path condition table problem name row in
    ok-same c.implies.result (implication_of c.in_ok-met.met c.in_ok-choice.choice)
    (term_formula path condition table (requirement_rule problem (names_for table) name row))
    (implies-same _ _ _ _ met choice) c.implies.ensures
