use Rattle.std.proofs.Common.{take}
use Rattle.problem.specs.Required.{AreNamedRows}
use Rattle.problem.proofs.required.required_of.Given as goal

abbrev pub invariant-loop-entry : goal.invariant-loop-entry
invariant-loop-entry l = AreNamedRows (take l.entry-index l.packages) l.named.items
