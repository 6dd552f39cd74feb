use Rattle.std.proofs.Common.{rules}
use Rattle.std.specs.Option.{option_eq}
use Rattle.problem.specs.Problems.{same_compiler}
use Rattle.node_formulas.proofs.attributes.compiler_is.Goals as goal

pub returns : goal.returns
returns c = c.compiler_passes.ensures (λ own. option_eq same_compiler own c.args.compiler.now) (λ x r says. search rules)
