use Rattle.reachability.specs.Searches.{IsSearched, left}
use Rattle.reachability.proofs.search.search.Given as goal

abbrev pub invariant-loop-place : goal.invariant-loop-place
invariant-loop-place l = IsSearched l.heads l.from l.base l.initial.marks l.marks l.waiting.items

abbrev pub decreases-loop-place : goal.decreases-loop-place
decreases-loop-place l = left l.marks l.waiting.items
