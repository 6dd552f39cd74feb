use Rattle.std.proofs.Common.{rules, is_none}
use Rattle.node_formulas.proofs.kept.no_prefix.Goals as goal

pub returns : goal.returns
returns c = c.prefix_passes.ensures is_none (λ x b says. search rules)
