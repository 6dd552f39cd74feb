use Rattle.std.proofs.Common.{sym, ap, ◌∙◌, map, List, Option}
use Rattle.clause_formulas.specs.Statements.{Statement, all_statements}
use Rattle.graph_core.specs.Graphs.{Text}
use Rattle.recipe_data.specs.declared.recipe.DependRow.{DependRow}
use Rattle.literal_table.specs.Choices.{Choices}
use Rattle.literal_table.specs.Tables.{children_of}
use Rattle.graph_formulas.specs.Edges.{extra_edge_rule, extra_edges_rule}
use Rattle.graph_formulas.specs.Laws.{virtuals_on}
use Rattle.graph_formulas.specs.Terms.{term_said}
use Rattle.graph_formulas.specs.Words.{names_for}
use Rattle.problem.specs.Problems.{Problem}
use Rattle.word_formulas.specs.Builders.{no_paths}
use Rattle.word_formulas.proofs.Steps.{ok-same, each-said}
use Rattle.rule_formulas.specs.Asking.{extra_edge_said}
use Rattle.rule_formulas.specs.Terms.{plain_term}
use Rattle.rule_formulas.proofs.Asking.{extra_edge-same}
use Rattle.rule_formulas.proofs.extra_edges.extra_edges_formula.Goals as goal

pub returns : goal.returns
returns g c =
    let table = c.args.table.now in
    let problem = c.args.problem.now in
    let condition = g.C.MetConditions.condition_of c.args.conditions.now in
    let name = c.args.name.now in
    let children = children_of table name in
    let rule = λ (n : Text). extra_edge_rule problem (names_for table) (virtuals_on table name n) name n in
    let said = λ (rows : List (DependRow × Option (Choices Text))) (named : Problem × Text).
    all_statements (map (extra_edge_said problem table condition rows named name) children) in
    ok-same c.edges_formula.result (said c.as_slice.result.now c.in_ok-named.named)
    (plain_term table condition (extra_edges_rule problem (names_for table) (virtuals_on table name) children name))
    (ap (said c.as_slice.result.now) c.in_ok-named.ensures
    ∙ ap (λ (rows : List (DependRow × Option (Choices Text))). said rows (problem, name)) (c.as_slice.ensures.value ∙ c.in_ok-rows.ensures)
    ∙ ap (λ (of : Text → Statement). all_statements (map of children)) (λ i n. extra_edge-same problem table condition name n i)
    ∙ sym (each-said (term_said no_paths condition table) rule children))
    c.edges_formula.ensures
