use Rattle.std.proofs.Common.{◌<◌, sym, subst}
use Rattle.clause_solver.specs.HeapValues.{HeapValue}
use Rattle.clause_solver.proofs.Under.{place-at}
use Rattle.clause_solver.proofs.variable_heap.VariableHeap.place_of.Goals as goal

pub returns : goal.returns
returns c =
    let f = c.self.inside in
    place-at c.args.self.now f.heap.items f.places.items f.waiting _ _ _ _ _ _ c.self.view_is c.self.invariant
    (subst (λ (o : HeapValue). c.args.var < o.vars) (sym c.self.view_is) c.requires) c.index.ensures
