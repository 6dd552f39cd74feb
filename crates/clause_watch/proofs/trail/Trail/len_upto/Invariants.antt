use Rattle.std.proofs.Common.{◌≤◌, ◌-◌, length}
use Rattle.clause_watch.specs.Trails.{upto}
use Rattle.clause_watch.proofs.trail.Trail.len_upto.Given as goal

abbrev pub invariant-loop-low : goal.invariant-loop-low
invariant-loop-low l = record {
  low : l.low ≤ length (upto l.level l.self.placed);
  high : length (upto l.level l.self.placed) ≤ l.high;
  within : l.high ≤ length l.self.placed;
}

abbrev pub decreases-loop-low : goal.decreases-loop-low
decreases-loop-low l = l.high - l.low
