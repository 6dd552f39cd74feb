use Rattle.std.proofs.Common.{arith}
use Rattle.clause_solver.proofs.Under.{heap-untouched}
use Rattle.clause_solver.proofs.variable_heap.VariableHeap.new.Goals as goal

pub invariant_of-result : goal.invariant_of-result
invariant_of-result c =
    heap-untouched c.in_ok-heap.heap.items c.in_ok-places.places.items c.args.vars _ _ c.in_ok-heap.ensures.len c.in_ok-heap.ensures.under
    c.in_ok-places.ensures.len c.in_ok-places.ensures.under
    (omega (arith, c.in_ok-activities.ensures.len, c.in_ok-activities.activities.ok.0))
    (omega (arith, c.in_ok-phases.ensures.len, c.in_ok-phases.phases.ok.0))
