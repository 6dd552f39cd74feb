use Rattle.std.proofs.Common.{◌≡◌, length, ◌+◌, ◌-◌}
use Rattle.clause_watch.specs.Trails.{free_left}
use Rattle.clause_watch.specs.Reasons.{Grown}
use Rattle.clause_watch.specs.Watching.{IsWatching}
use Rattle.clause_watch.proofs.queue.Queue.visit_trail.Given as goal

abbrev pub invariant-loop-self : goal.invariant-loop-self
invariant-loop-self l = record {
  grown : Grown l.clauses l.fn.trail l.trail;
  watching : IsWatching l.trail.vars l.clauses l.trail.placed l.self;
  arrived : length l.self.watched_lits.items ≡ length l.clauses;
}

abbrev pub decreases-loop-self : goal.decreases-loop-self
decreases-loop-self l = free_left l.trail.placed l.trail.vars + length l.trail.placed - l.self.head
