use Rattle.std.proofs.Common.{rules}
use Rattle.std.specs.Str.{bytes_eq}
use Rattle.graph_core.specs.Graphs.{Text}
use Rattle.node_formulas.proofs.attributes.os_is.Goals as goal

pub returns : goal.returns
returns c = c.os_passes.ensures (λ (own : Text). bytes_eq own c.args.text.now) (λ x r says. search rules)
