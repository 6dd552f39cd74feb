use Rattle.std.proofs.Common.{ap, None}
use Rattle.condition_rules.specs.Worlds.{World}
use Rattle.graph_formulas.specs.Parts.{provides_rule}
use Rattle.graph_formulas.specs.Built.{provider_rule}
use Rattle.word_formulas.specs.Builders.{plain_said}
use Rattle.word_formulas.proofs.Steps.{ok-same}
use Rattle.node_formulas.proofs.provider_rows.provider_formula.Goals as goal

pub returns : goal.returns
returns c = ok-same c.provides_formula.result _
    (plain_said c.args.table.now (provider_rule c.args.problem.now (c.args.virtual_name.now, c.args.name.now)))
    (ap (λ (w : World). plain_said c.args.table.now (provides_rule w c.args.name.now c.args.virtual_name.now None)) c.world-world.ensures)
    c.provides_formula.ensures
