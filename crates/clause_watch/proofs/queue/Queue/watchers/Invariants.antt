use Rattle.std.specs.List.{All}
use Rattle.clause_watch.specs.Watches.{IsWatcher}
use Rattle.clause_watch.proofs.queue.Queue.watchers.Given as goal

abbrev pub invariant-loop-at : goal.invariant-loop-at
invariant-loop-at l = All (IsWatcher l.clauses l.lit) l.ids.items
