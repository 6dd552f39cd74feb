use Rattle.std.proofs.Common.{◌<◌, sym, subst}
use Rattle.clause_solver.specs.HeapValues.{HeapValue}
use Rattle.clause_solver.proofs.Under.{heap-put}
use Rattle.clause_solver.proofs.variable_heap.VariableHeap.put.Goals as goal

pub invariant_of-self : goal.invariant_of-self
invariant_of-self c =
    let f = c.self.inside in
    let v = sym c.self.view_is in
    heap-put f.heap.items f.places.items f.waiting _ _ c.args.place c.args.var c.self.invariant
    (subst (λ (o : HeapValue). c.args.place < o.vars) v c.requires.place)
    (subst (λ (o : HeapValue). c.args.var < o.vars) v c.requires.var)
