use Rattle.std.proofs.Common.{rules}
use Rattle.graph_core.specs.Graphs.{Text}
use Rattle.graph_formulas.specs.Terms.{where_built}
use Rattle.rule_formulas.specs.Terms.{plain_term}
use Rattle.graph_formulas.specs.Laws.{variants_of}
use Rattle.graph_formulas.specs.Variants.{variants_rule}
use Rattle.problem_formulas.proofs.rows.variant_row.Goals as goal

pub returns : goal.returns
returns g c =
    let table = c.args.table.now in
    let problem = c.args.problem.now in
    let condition = g.C.MetConditions.condition_of c.args.conditions.now in
    c.each_name.ensures (λ (name : Text). plain_term table condition
    (where_built name (variants_rule problem (variants_of table name) name))) (λ x r says. search rules)
