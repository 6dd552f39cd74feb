use Rattle.std.proofs.Common.{rules}
use Rattle.graph_core.specs.Graphs.{Text}
use Rattle.graph_formulas.specs.Words.{names_for}
use Rattle.graph_formulas.specs.Terms.{where_built}
use Rattle.graph_formulas.specs.Edges.{extra_edges_rule}
use Rattle.literal_table.specs.Tables.{children_of}
use Rattle.graph_formulas.specs.Laws.{virtuals_on}
use Rattle.rule_formulas.specs.Terms.{plain_term}
use Rattle.problem_formulas.proofs.rows.extra_row.Goals as goal

pub returns : goal.returns
returns g c =
    let table = c.args.table.now in
    let problem = c.args.problem.now in
    let condition = g.C.MetConditions.condition_of c.args.conditions.now in
    c.each_name.ensures (λ (name : Text). plain_term table condition
    (where_built name (extra_edges_rule problem (names_for table) (virtuals_on table name) (children_of table name) name)))
    (λ x r says. search rules)
