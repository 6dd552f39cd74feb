use Rattle.std.proofs.Common.{true, rules}
use Rattle.word_formulas.proofs.scribe.Scribe.has_variant.Goals as goal

pub returns : goal.returns
returns c = c.value_passes.ensures (λ value. true) (λ x b says. search rules)
