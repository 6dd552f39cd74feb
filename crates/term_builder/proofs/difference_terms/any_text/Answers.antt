use Rattle.std.proofs.Common.{rules}
use Rattle.std.specs.Str.{bytes_eq}
use Rattle.term_builder.proofs.difference_terms.any_text.Goals as goal

pub returns : goal.returns
returns c = c.any_choice.ensures (bytes_eq c.args.text.now) (λ x b told. search rules)
