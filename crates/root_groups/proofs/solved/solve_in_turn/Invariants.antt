use Rattle.std.proofs.Common.{take}
use Rattle.root_groups.specs.Solved.{AreFound}
use Rattle.root_groups.proofs.solved.solve_in_turn.Given as goal

abbrev pub invariant-loop-i : goal.invariant-loop-i
invariant-loop-i g l = AreFound l.budget (take l.i l.parts) l.found.items
