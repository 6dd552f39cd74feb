use Rattle.std.proofs.Common.{◌≡◌, All, take}
use Rattle.root_graphs.specs.Each.{IsSolvable}
use Rattle.run_task.specs.Problems.{each_alone}
use Rattle.run_output.proofs.each_found.problems_of.Given as goal

abbrev pub invariant-loop-place : goal.invariant-loop-place
invariant-loop-place l = record {
  so_far : l.problems.items ≡ take l.place (each_alone l.input.problem);
  solvable : All IsSolvable l.problems.items;
}
