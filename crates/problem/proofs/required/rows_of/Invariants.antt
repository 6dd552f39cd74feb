use Rattle.std.proofs.Common.{◌≡◌, ◌++◌, drop}
use Rattle.problem.specs.Problems.{rows_from}
use Rattle.problem.proofs.required.rows_of.Given as goal

abbrev pub invariant-loop-place : goal.invariant-loop-place
invariant-loop-place l = l.rows ++ rows_from l.place (drop l.place l.entries) ≡ rows_from 0 l.entries
