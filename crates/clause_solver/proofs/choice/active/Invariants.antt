use Rattle.clause_solver.proofs.choice.active.Given as goal

abbrev pub decreases-loop-x : goal.decreases-loop-x
decreases-loop-x l = l.heap.waiting
