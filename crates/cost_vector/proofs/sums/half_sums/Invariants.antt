use Rattle.std.proofs.Common.{◌≡◌, take, map, length}
use Rattle.graph_rules.specs.declared.criterion.TheConstants.{CRITERIA}
use Rattle.cost_vector.specs.Terms.{half_sum}
use Rattle.cost_vector.proofs.sums.half_sums.Given as goal

abbrev pub invariant-loop-place : goal.invariant-loop-place
invariant-loop-place l = record {
  long : length l.sums ≡ length CRITERIA;
  filled : take l.place l.sums ≡ take l.place (map (half_sum l.half.built l.half.problem.now l.half.graph.now) CRITERIA);
}
