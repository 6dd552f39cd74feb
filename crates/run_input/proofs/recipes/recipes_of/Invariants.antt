use Rattle.std.proofs.Common.{length}
use Rattle.run_input.proofs.Turns.{IsDone}
use Rattle.run_input.proofs.recipes.recipes_of.Given as goal

-- the files in front of the rest were read
abbrev pub invariant-turns : goal.invariant-turns
invariant-turns g l = IsDone l.fn.files.items l.rest.items l.recipes.items

abbrev pub decreases-turns : goal.decreases-turns
decreases-turns g l = length l.rest.items
