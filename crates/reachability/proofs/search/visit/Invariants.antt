use Rattle.std.proofs.Common.{take}
use Rattle.reachability.specs.Searches.{Visits}
use Rattle.reachability.proofs.search.visit.Given as goal

abbrev pub invariant-loop-place : goal.invariant-loop-place
invariant-loop-place l = Visits l.base (take l.place-index l.places) l.initial.marks l.marks l.initial.waiting.items l.waiting.items
