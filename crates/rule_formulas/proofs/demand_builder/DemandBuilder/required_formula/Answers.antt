use Rattle.std.proofs.Common.{sym, ap, ◌∙◌, Option}
use Rattle.recipe_data.specs.declared.recipe.RequireRow.{RequireRow}
use Rattle.problem.specs.Problems.{required_at}
use Rattle.graph_formulas.specs.Words.{names_for}
use Rattle.graph_formulas.specs.Directives.{requirement_rule}
use Rattle.graph_formulas.specs.Laws.{term_formula}
use Rattle.rule_formulas.specs.Paths.{path_by}
use Rattle.word_formulas.proofs.Steps.{ok-same}
use Rattle.rule_formulas.specs.Terms.{required_said}
use Rattle.std.specs.Prelude.{slice_get}
use Rattle.std.specs.Option.{option_copied}
use Rattle.rule_formulas.proofs.demand_builder.DemandBuilder.required_formula.Goals as goal

pub returns-in-Some : goal.returns-in-Some
returns-in-Some g c =
    let table = c.args.self.now.scribe.table.now in
    let problem = c.args.self.now.problem.now in
    let path = path_by table c.args.self.now.paths.now in
    let condition = g.C.MetConditions.condition_of c.args.self.now.conditions.now in
    let name = c.args.name.now in
    ok-same c.requirement_formula.result (term_formula path condition table
    (requirement_rule problem (names_for table) name c.in-Some.row.now))
    (required_said path condition problem table name (slice_get (required_at problem name) c.args.place))
    (sym (ap (λ (o : Option RequireRow). required_said path condition problem table name o) (sym c.row_at.ensures
    ∙ ap (λ r. option_copied r) c.in-Some.is)))
    c.requirement_formula.ensures
