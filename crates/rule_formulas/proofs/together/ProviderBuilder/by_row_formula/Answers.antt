use Rattle.std.proofs.Common.{ap, ◌∙◌, None}
use Rattle.clause_formulas.specs.Statements.{implication_of}
use Rattle.condition_rules.specs.Worlds.{World}
use Rattle.graph_core.specs.Graphs.{Text}
use Rattle.problem.specs.Problems.{world_of}
use Rattle.graph_formulas.specs.Parts.{row_rule}
use Rattle.graph_formulas.specs.Words.{names_for}
use Rattle.graph_formulas.specs.Together.{each_name_rule, by_row_rule}
use Rattle.word_formulas.specs.Builders.{plain_said}
use Rattle.word_formulas.proofs.Steps.{ok-same, ok-is, implies-same}
use Rattle.rule_formulas.specs.Terms.{plain_term, no_conditions}
use Rattle.rule_formulas.proofs.together.ProviderBuilder.by_row_formula.Goals as goal

pub returns : goal.returns
returns c =
    let table = c.args.self.now.scribe.table.now in
    let problem = c.args.self.now.problem.now in
    let virtual_name = c.args.virtual_name.now in
    let provider = c.args.provider.now in
    let row = c.args.row.now in
    let name = c.as_str-name.result.now in
    let asked = c.as_str-asked.result.now in
    let said = λ (w : World) (n v : Text). plain_said table (row_rule w n v None row) in
    let by_row = ok-is c.provide_row_formula.result c.in_ok-by_row.by_row (said c.world-world.result name asked) c.in_ok-by_row.was
    c.provide_row_formula.ensures
    ∙ ap (λ (w : World). said w name asked) c.world-world.ensures
    ∙ ap (λ (n : Text). said (world_of problem) n asked) c.as_str-name.ensures
    ∙ ap (said (world_of problem) provider) c.as_str-asked.ensures in
    let together = ok-is c.each_name_formula.result c.in_ok-together.together
    (plain_term table no_conditions (each_name_rule problem (names_for table) provider row)) c.in_ok-together.was
    c.each_name_formula.ensures in
    ok-same c.implies.result (implication_of c.in_ok-by_row.by_row c.in_ok-together.together)
    (plain_term table no_conditions (by_row_rule problem (names_for table) (virtual_name, provider) row))
    (implies-same _ _ _ _ by_row together) c.implies.ensures
