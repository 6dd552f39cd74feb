use Rattle.std.proofs.Common.{length, ◌-◌}
use Rattle.clause_watch.specs.Reasons.{Grown}
use Rattle.clause_watch.specs.Watching.{IsWatching}
use Rattle.clause_watch.proofs.queue.Queue.visit_added.Given as goal

abbrev pub invariant-loop-alloc : goal.invariant-loop-alloc
invariant-loop-alloc l = record {
  grown : Grown l.clauses l.fn.trail l.trail;
  watching : IsWatching l.trail.vars l.clauses l.trail.placed l.self;
}

abbrev pub decreases-loop-alloc : goal.decreases-loop-alloc
decreases-loop-alloc l = length l.clauses - length l.self.watched_lits.items
