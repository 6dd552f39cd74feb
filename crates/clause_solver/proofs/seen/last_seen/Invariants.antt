use Rattle.std.proofs.Common.{◌≤◌}
use Rattle.clause_solver.specs.Seen.{NoneSeen, seen_at}
use Rattle.clause_solver.proofs.seen.last_seen.Given as goal

abbrev pub invariant-loop-at : goal.invariant-loop-at
invariant-loop-at l = record {
  within : l.at ≤ l.end;
  passed : NoneSeen (seen_at l.seen) l.watch.placed l.at l.end;
}

abbrev pub decreases-loop-at : goal.decreases-loop-at
decreases-loop-at l = l.at
