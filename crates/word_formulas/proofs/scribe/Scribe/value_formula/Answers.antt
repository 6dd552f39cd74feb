use Rattle.std.proofs.Common.{rules}
use Rattle.std.specs.Str.{bytes_eq}
use Rattle.word_formulas.proofs.scribe.Scribe.value_formula.Goals as goal

pub returns : goal.returns
returns c = c.value_passes.ensures (bytes_eq c.args.value.now) (λ x b says. search rules)
