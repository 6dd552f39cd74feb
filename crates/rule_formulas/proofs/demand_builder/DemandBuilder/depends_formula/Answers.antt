use Rattle.std.proofs.Common.{rules, sym, ap, ◌∙◌, map, filter, List}
use Rattle.clause_formulas.specs.Statements.{all_statements}
use Rattle.clause_formulas.specs.Rules.{both_of}
use Rattle.recipe_data.specs.declared.recipe.DependRow.{DependRow}
use Rattle.problem.specs.Problems.{depends_at}
use Rattle.graph_formulas.specs.Lists.{each_keeps}
use Rattle.graph_formulas.specs.Words.{names_for}
use Rattle.graph_formulas.specs.Terms.{term_said}
use Rattle.graph_formulas.specs.Directives.{edge_rule, constraint_rule}
use Rattle.graph_formulas.specs.Laws.{term_formula}
use Rattle.rule_formulas.specs.Paths.{path_by}
use Rattle.word_formulas.proofs.Steps.{ok-same, each-said}
use Rattle.std.specs.Prelude.{◌==◌}
use Rattle.rule_formulas.proofs.demand_builder.DemandBuilder.depends_formula.Goals as goal

pub returns : goal.returns
returns g c =
    let table = c.args.self.now.scribe.table.now in
    let problem = c.args.self.now.problem.now in
    let path = path_by table c.args.self.now.paths.now in
    let condition = g.C.MetConditions.condition_of c.args.self.now.conditions.now in
    let name = c.args.name.now in
    let p = λ (row : DependRow). row.number == c.args.number in
    let rule = λ (row : DependRow). both_of (edge_rule problem (names_for table) name row)
    (constraint_rule problem (names_for table) name row) in
    let formula = λ (row : DependRow). term_formula path condition table
    (both_of (edge_rule problem (names_for table) name row) (constraint_rule problem (names_for table) name row)) in
    ok-same c.each.result (all_statements (map formula c.depends_with.result.now))
    (term_formula path condition table (each_keeps rule (filter p (depends_at problem name))))
    (ap (λ (l : List DependRow). all_statements (map formula l)) c.depends_with.ensures
    ∙ sym (each-said (term_said path condition table) rule (filter p (depends_at problem name))))
    (c.each.ensures formula (λ x r says. search rules))
