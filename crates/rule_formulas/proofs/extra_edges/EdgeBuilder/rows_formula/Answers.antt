use Rattle.std.proofs.Common.{rules, sym, ap, ◌∙◌, map, filter, List}
use Rattle.std.specs.Borrow.{Bor}
use Rattle.clause_formulas.specs.Statements.{any_statement}
use Rattle.graph_core.specs.Graphs.{Text}
use Rattle.recipe_data.specs.declared.recipe.DependRow.{DependRow}
use Rattle.problem.specs.Problems.{depends_at}
use Rattle.graph_formulas.specs.Edges.{names_virtual}
use Rattle.graph_formulas.specs.Lists.{some}
use Rattle.graph_formulas.specs.Terms.{term_said, met_rule}
use Rattle.word_formulas.specs.Builders.{no_paths}
use Rattle.word_formulas.proofs.Steps.{ok-same, some-said}
use Rattle.rule_formulas.specs.Terms.{plain_term}
use Rattle.rule_formulas.proofs.Lists.{over-mapped}
use Rattle.rule_formulas.proofs.extra_edges.EdgeBuilder.rows_formula.Goals as goal

pub returns : goal.returns
returns g c =
    let table = c.args.self.now.scribe.table.now in
    let condition = g.C.MetConditions.condition_of c.args.self.now.conditions.now in
    let problem = c.args.self.now.named.now.0 in
    let name = c.args.self.now.named.now.1 in
    let asking = filter (names_virtual problem c.args.virtual_name.now) (depends_at problem name) in
    let rule = λ (row : DependRow). met_rule name row.when in
    let own = λ (row : Bor DependRow). row.now in
    let said = λ (n : Text) (row : DependRow). condition n row.when in
    let formula = λ (row : Bor DependRow). condition c.name-name.result.now row.now.when in
    ok-same c.some.result (any_statement (map formula c.as_slice.result.now))
    (plain_term table condition (some rule asking))
    (ap (λ (rows : List (Bor DependRow)). any_statement (map formula rows)) c.as_slice.ensures.value
    ∙ ap any_statement (over-mapped (said c.name-name.result.now) own c.in_ok-asking.asking.items)
    ∙ ap (λ (rows : List DependRow). any_statement (map (said c.name-name.result.now) rows)) c.in_ok-asking.ensures
    ∙ ap (λ (n : Text). any_statement (map (said n) asking)) c.name-name.ensures
    ∙ sym (some-said (term_said no_paths condition table) rule asking))
    (c.some.ensures formula (λ x r says. search rules))
