use Rattle.std.proofs.Common.{rules}
use Rattle.graph_core.specs.Graphs.{Text}
use Rattle.graph_formulas.specs.Words.{names_for}
use Rattle.graph_formulas.specs.Edges.{used_rule, of_provider}
use Rattle.literal_table.specs.Tables.{table_names}
use Rattle.graph_formulas.specs.Laws.{may_use}
use Rattle.rule_formulas.specs.Terms.{plain_term, no_conditions}
use Rattle.problem_formulas.proofs.rows.used_row.Goals as goal

pub returns : goal.returns
returns c =
    let table = c.args.table.now in
    c.each_virtual.ensures (λ (name : Text). plain_term table no_conditions
    (of_provider (names_for table) (used_rule (may_use table) (table_names table)) name)) (λ x r says. search rules)
