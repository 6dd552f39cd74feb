use Rattle.std.proofs.Common.{rules}
use Rattle.graph_core.specs.Graphs.{Text}
use Rattle.graph_formulas.specs.Built.{provider_rule}
use Rattle.word_formulas.specs.Builders.{plain_said}
use Rattle.node_formulas.specs.Rows.{providers_said}
use Rattle.node_formulas.proofs.provider_rows.provider_row.Goals as goal

pub returns : goal.returns
returns c = c.each_virtual.ensures (providers_said c.args.table.now
    (λ (p : Text × Text). plain_said c.args.table.now (provider_rule c.args.problem.now p))) (λ x r says. search rules)
