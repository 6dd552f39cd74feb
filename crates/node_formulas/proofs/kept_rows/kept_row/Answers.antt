use Rattle.std.proofs.Common.{rules}
use Rattle.graph_core.specs.Graphs.{Text}
use Rattle.graph_formulas.specs.Kept.{kept_rule, origins_of}
use Rattle.graph_formulas.specs.Laws.{children_of}
use Rattle.word_formulas.specs.Builders.{plain_said}
use Rattle.node_formulas.specs.Rows.{there_said}
use Rattle.node_formulas.proofs.kept_rows.kept_row.Goals as goal

pub returns : goal.returns
returns c = c.each_name.ensures (λ (n : Text). there_said c.args.table.now n
    (plain_said c.args.table.now (kept_rule c.args.problem.now (children_of c.args.table.now n) (origins_of c.args.table.now n) n)))
    (λ x r says. search rules)
