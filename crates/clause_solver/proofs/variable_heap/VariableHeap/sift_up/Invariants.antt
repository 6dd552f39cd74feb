use Rattle.std.proofs.Common.{◌≡◌, ◌<◌}
use Rattle.clause_solver.proofs.variable_heap.VariableHeap.sift_up.Given as goal

abbrev pub invariant-loop-at : goal.invariant-loop-at
invariant-loop-at l = record {
  kept : l.self ≡ l.fn.self;
  within : l.at < l.self.vars;
}

abbrev pub decreases-loop-at : goal.decreases-loop-at
decreases-loop-at l = l.at
