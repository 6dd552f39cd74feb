use Rattle.std.proofs.Common.{rules, true}
use Rattle.term_builder.proofs.variant_terms.some_value.Goals as goal

pub returns : goal.returns
returns c = c.any_choice.ensures (λ value. true) (λ x b told. search rules)
