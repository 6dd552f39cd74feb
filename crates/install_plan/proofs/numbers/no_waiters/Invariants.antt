use Rattle.std.proofs.Common.{◌≡◌, [], replicate}
use Rattle.install_plan.proofs.numbers.no_waiters.Given as goal

abbrev pub invariant-loop : goal.invariant-loop
invariant-loop l = l.waiting.items ≡ replicate l.counter []
