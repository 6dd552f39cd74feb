use Rattle.std.proofs.Common.{◌+◌, ◌++◌, ◌∷◌, [], length}
use Rattle.install_plan.specs.Numbers.{missing, Waits}
use Rattle.install_plan.proofs.SettleLaws.{IsWoken}
use Rattle.install_plan.proofs.numbers.wake.Given as goal

abbrev pub invariant-loop-waiter : goal.invariant-loop-waiter
invariant-loop-waiter l = IsWoken l.heads l.initial.numbers.items
    (λ p. Waits l.fn.heads l.fn.numbers.items l.fn.waiting.items (l.fn.settled.items ++ l.fn.place ∷ []) p) l.waiter-items
    (length l.initial.settled.items + missing l.initial.numbers.items) l.waiter-index l.numbers.items l.waiting.items l.settled.items
