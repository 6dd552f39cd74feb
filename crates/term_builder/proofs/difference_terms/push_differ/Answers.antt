use Rattle.std.proofs.lemmas.Grind.{common_steps}
use Rattle.std.proofs.Common.{arith}
use Rattle.cost_terms.proofs.PartLaws.{opposite-any}
use Rattle.term_builder.proofs.difference_terms.push_differ.Goals as goal

pub returns : goal.returns
returns c = grind (arith, common_steps, opposite-any)
