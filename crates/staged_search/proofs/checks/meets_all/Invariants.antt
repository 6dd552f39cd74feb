use Rattle.std.proofs.Common.{take}
use Rattle.clause_store.specs.Clauses.{clauses_of, AllTrue}
use Rattle.clause_solver.specs.Models.{values_in}
use Rattle.staged_search.proofs.checks.meets_all.Given as goal

abbrev pub invariant-loop-place : goal.invariant-loop-place
invariant-loop-place l = AllTrue (values_in l.model) (clauses_of (take l.place l.clauses.entries))
