use Rattle.std.proofs.Common.{rules}
use Rattle.clause_store.specs.declared.Lit.{Lit}
use Rattle.graph_core.specs.Graphs.{Text}
use Rattle.graph_formulas.specs.Built.{provider_rule}
use Rattle.word_formulas.specs.Builders.{plain_said}
use Rattle.node_formulas.specs.Rows.{provided_said}
use Rattle.node_formulas.proofs.provider_rows.providers_in.Goals as goal

pub returns : goal.returns
returns c = c.each.ensures
    (λ (p : Text × Lit). provided_said c.args.table.now c.args.virtual_name.now p.0
    (plain_said c.args.table.now (provider_rule c.args.problem.now (c.args.virtual_name.now, p.0))))
    (λ x r says. search rules)
