use Rattle.std.proofs.Common.{◌≡◌, length, drop}
use Rattle.clause_store.specs.Lits.{AllBelow}
use Rattle.clause_solver.specs.Learning.{KeepsUip}
use Rattle.clause_solver.proofs.analysis.minimize.Given as goal

abbrev pub invariant-loop-lit : goal.invariant-loop-lit
invariant-loop-lit l = record {
  in_range : AllBelow l.watch.vars (drop l.lit-index l.lits);
  keeps : KeepsUip l.watch l.fn.seen l.seen l.fn.chain l.chain;
  same : length l.seen ≡ length l.fn.seen;
}
