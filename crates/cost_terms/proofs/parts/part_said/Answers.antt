use Rattle.std.proofs.lemmas.Grind.{common_steps}
use Rattle.std.proofs.Common.{arith}
use Rattle.cost_terms.proofs.PartLaws.{opposite-any}
use Rattle.cost_terms.proofs.parts.part_said.Goals as goal

pub returns-else-built : goal.returns-else-built
returns-else-built c = grind (arith, common_steps, opposite-any)
