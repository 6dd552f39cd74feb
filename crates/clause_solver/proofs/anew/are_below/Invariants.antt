use Rattle.std.proofs.Common.{drop}
use Rattle.clause_store.specs.Lits.{AllBelow}
use Rattle.clause_solver.proofs.anew.are_below.Given as goal

abbrev pub invariant-loop-lit : goal.invariant-loop-lit
invariant-loop-lit l = AllBelow l.vars (drop l.lit-index l.lits) → AllBelow l.vars l.lits
