use Rattle.std.proofs.Common.{drop, take}
use Rattle.clause_store.specs.Lits.{AllBelow}
use Rattle.clause_solver.specs.Learning.{IsBackjumpLevel}
use Rattle.clause_solver.proofs.analysis.backjump_level.Given as goal

abbrev pub invariant-loop-lit : goal.invariant-loop-lit
invariant-loop-lit l = record {
  in_range : AllBelow l.watch.vars (drop l.lit-index l.lits);
  level : IsBackjumpLevel l.watch.placed (take l.lit-index l.lits) l.highest;
}
