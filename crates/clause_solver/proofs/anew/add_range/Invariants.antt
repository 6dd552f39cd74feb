use Rattle.std.proofs.Common.{◌≡◌}
use Rattle.clause_watch.specs.Trails.{decisions}
use Rattle.clause_solver.proofs.anew.add_range.Given as goal

abbrev pub invariant-loop-place : goal.invariant-loop-place
invariant-loop-place l = (decisions l.watch.placed ≡ 0) × (l.watch.vars ≡ l.fn.watch.vars)
