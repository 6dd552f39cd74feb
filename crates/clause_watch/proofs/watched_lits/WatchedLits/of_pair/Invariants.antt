use Rattle.clause_watch.proofs.Swaps.{IsOrdered}
use Rattle.clause_watch.proofs.watched_lits.WatchedLits.of_pair.Given as goal

abbrev pub invariant-loop-code : goal.invariant-loop-code
invariant-loop-code l = IsOrdered l.lits l.first l.second l.code-index l.order.items
