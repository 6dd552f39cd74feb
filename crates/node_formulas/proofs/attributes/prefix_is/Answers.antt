use Rattle.std.proofs.Common.{rules}
use Rattle.std.specs.Option.{option_eq}
use Rattle.std.specs.Str.{bytes_eq}
use Rattle.node_formulas.proofs.attributes.prefix_is.Goals as goal

pub returns : goal.returns
returns c = c.prefix_passes.ensures (λ own. option_eq bytes_eq own c.args.prefix.now) (λ x r says. search rules)
