use Rattle.std.proofs.Common.{◌∷◌, [], length, length-append, sym, ap, ◌∙◌, subst, arith}
use Rattle.clause_solver.specs.Heaps.{AllUnder}
use Rattle.clause_solver.proofs.Under.{under-push}
use Rattle.clause_solver.proofs.variable_heap.numbers.Goals as goal

pub loop-number-preserved : goal.loop-number-preserved
loop-number-preserved c =
    let xs = c.loop-number.numbers.items in
    let x = c.loop-number.number in
    let e = c.in_ok-push.ensures.items in record {
      len = ap length e ∙ omega (arith, length-append xs (x ∷ []), c.loop-number.invariant.len);
      under = subst (AllUnder c.args.end) (sym e) (under-push c.args.end xs x (omega arith) c.loop-number.invariant.under);
    }
