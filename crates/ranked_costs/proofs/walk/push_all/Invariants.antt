use Rattle.std.proofs.Common.{◌≡◌, ◌++◌}
use Rattle.ranked_costs.proofs.walk.push_all.Given as goal

abbrev pub invariant-loop-name : goal.invariant-loop-name
invariant-loop-name l = l.left.items ++ l.name-iterator.rest.items ≡ l.fn.left.items ++ l.fn.rest.items
