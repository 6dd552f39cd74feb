use Rattle.std.proofs.Common.{◌≡◌, ◌++◌, drop}
use Rattle.cost_vector.proofs.ranks.copied.Given as goal

abbrev pub invariant-loop-one : goal.invariant-loop-one
invariant-loop-one l = l.copied.items ++ drop l.one-index l.ranked ≡ l.ranked
