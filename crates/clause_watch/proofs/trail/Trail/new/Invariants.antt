use Rattle.std.proofs.Common.{◌≡◌, length}
use Rattle.clause_watch.proofs.trail.Trail.new.Given as goal

abbrev pub invariant-loop : goal.invariant-loop
invariant-loop l = length l.causes.items ≡ l.counter
