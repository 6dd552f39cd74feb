use Rattle.std.proofs.Common.{rules}
use Rattle.cost_terms.specs.Differ.{same_compilers}
use Rattle.term_builder.proofs.difference_terms.any_compiler.Goals as goal

pub returns : goal.returns
returns c = c.any_choice.ensures (same_compilers c.args.compiler.now) (λ x b told. search rules)
