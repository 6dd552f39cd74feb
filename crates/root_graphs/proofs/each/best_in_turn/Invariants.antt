use Rattle.std.proofs.Common.{take}
use Rattle.root_graphs.specs.Each.{AreAnswers}
use Rattle.root_graphs.proofs.each.best_in_turn.Given as goal

abbrev pub invariant-loop-i : goal.invariant-loop-i
invariant-loop-i g l = AreAnswers l.budget (take l.i l.problems) l.answers.items
