use Rattle.std.proofs.Common.{rules, Option}
use Rattle.graph_core.specs.Graphs.{Text}
use Rattle.recipe_data.specs.declared.recipe.DependRow.{DependRow}
use Rattle.literal_table.specs.Choices.{Choices}
use Rattle.graph_formulas.specs.Words.{names_for}
use Rattle.graph_formulas.specs.Edges.{asks_rule}
use Rattle.rule_formulas.specs.Asking.{may_name_as}
use Rattle.rule_formulas.specs.Terms.{plain_term}
use Rattle.rule_formulas.proofs.extra_edges.EdgeBuilder.asking_formula.Goals as goal

pub returns : goal.returns
returns g c =
    let table = c.args.self.now.scribe.table.now in
    let problem = c.args.self.now.problem.now in
    let condition = g.C.MetConditions.condition_of c.args.self.now.conditions.now in
    let name = c.args.self.now.name.now in
    let child = c.args.child.now in
    let p = λ (asking : DependRow × Option (Choices Text)). may_name_as c.args.kind child asking in
    let formula = λ (asking : DependRow × Option (Choices Text)).
    plain_term table condition (asks_rule problem (names_for table) name child asking.0) in
    c.some_where.ensures p formula (λ x b says. search rules) (λ x r says. search rules)
