use Rattle.std.proofs.Common.{rules, sym, ap, ◌∙◌, map, filter, List}
use Rattle.clause_formulas.specs.Statements.{all_statements}
use Rattle.recipe_data.specs.declared.recipe.RequireRow.{RequireRow}
use Rattle.problem.specs.Problems.{requirements_at}
use Rattle.graph_formulas.specs.Lists.{each_keeps}
use Rattle.graph_formulas.specs.Words.{names_for}
use Rattle.graph_formulas.specs.Terms.{term_said}
use Rattle.graph_formulas.specs.Directives.{requirement_rule}
use Rattle.graph_formulas.specs.Laws.{term_formula}
use Rattle.rule_formulas.specs.Paths.{path_by}
use Rattle.word_formulas.proofs.Steps.{ok-same, each-said}
use Rattle.std.specs.Prelude.{◌==◌}
use Rattle.rule_formulas.proofs.demand_builder.DemandBuilder.requirements_formula.Goals as goal

pub returns : goal.returns
returns g c =
    let table = c.args.self.now.scribe.table.now in
    let problem = c.args.self.now.problem.now in
    let path = path_by table c.args.self.now.paths.now in
    let condition = g.C.MetConditions.condition_of c.args.self.now.conditions.now in
    let name = c.args.name.now in
    let p = λ (row : RequireRow). row.number == c.args.number in
    let rule = λ (row : RequireRow). requirement_rule problem (names_for table) name row in
    let formula = λ (row : RequireRow). term_formula path condition table (requirement_rule problem (names_for table) name row) in
    ok-same c.each.result (all_statements (map formula c.requirements_with.result.now))
    (term_formula path condition table (each_keeps rule (filter p (requirements_at problem name))))
    (ap (λ (l : List RequireRow). all_statements (map formula l)) c.requirements_with.ensures
    ∙ sym (each-said (term_said path condition table) rule (filter p (requirements_at problem name))))
    (c.each.ensures formula (λ x r says. search rules))
