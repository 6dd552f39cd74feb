use Rattle.std.proofs.Common.{take}
use Rattle.clause_store.specs.Clauses.{Meets}
use Rattle.explain_failure.specs.Uses.{stands}
use Rattle.clause_solver.specs.Models.{values_in}
use Rattle.reason_minimum.specs.Reductions.{but}
use Rattle.reason_minimum.proofs.broken.only_broken.Given as goal

abbrev pub invariant-loop-place : goal.invariant-loop-place
invariant-loop-place l = Meets (but (stands l.demands) l.broken) (values_in l.model) (take l.place l.clauses.entries)
