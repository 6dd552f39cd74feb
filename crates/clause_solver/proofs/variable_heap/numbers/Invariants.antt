use Rattle.std.proofs.Common.{◌≡◌, length}
use Rattle.clause_solver.specs.Heaps.{AllUnder}
use Rattle.clause_solver.proofs.variable_heap.numbers.Given as goal

abbrev pub invariant-loop-number : goal.invariant-loop-number
invariant-loop-number l = record {
  len : length l.numbers.items ≡ l.number;
  under : AllUnder l.end l.numbers.items;
}
