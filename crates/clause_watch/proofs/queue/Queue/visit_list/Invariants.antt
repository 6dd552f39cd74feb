use Rattle.std.proofs.Common.{◌≡◌, ◌≤◌, length, ◌-◌}
use Rattle.clause_watch.specs.Lists.{row_of}
use Rattle.clause_watch.specs.Reasons.{Grown}
use Rattle.clause_watch.specs.Watching.{IsWatching, IsVisiting}
use Rattle.clause_watch.proofs.queue.Queue.visit_list.Given as goal

abbrev pub invariant-loop-at : goal.invariant-loop-at
invariant-loop-at l = record {
  grown : Grown l.clauses l.fn.trail l.trail;
  watching : IsWatching l.trail.vars l.clauses l.trail.placed l.self;
  visiting : IsVisiting l.clauses l.trail.placed l.self l.lit l.from;
  within : l.from ≤ length (row_of l.self.lists l.lit);
  head : l.self.head ≡ l.fn.self.head;
  arrived : length l.self.watched_lits.items ≡ length l.fn.self.watched_lits.items;
}

abbrev pub decreases-loop-at : goal.decreases-loop-at
decreases-loop-at l = length (row_of l.self.lists l.lit) - l.from
