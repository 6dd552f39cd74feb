use Rattle.std.proofs.Common.{rules}
use Rattle.graph_core.specs.Graphs.{Text}
use Rattle.graph_formulas.specs.Built.{version_rule}
use Rattle.word_formulas.specs.Builders.{plain_said}
use Rattle.node_formulas.specs.Rows.{built_said}
use Rattle.node_formulas.proofs.built_rows.version_row.Goals as goal

pub returns : goal.returns
returns c = c.each_name.ensures (λ (n : Text). built_said c.args.table.now n
    (plain_said c.args.table.now (version_rule c.args.problem.now n))) (λ x r says. search rules)
