use Rattle.std.proofs.Common.{◌≡◌, ◌++◌, drop}
use Rattle.ranked_costs.specs.Built.{ends_from}
use Rattle.ranked_costs.proofs.ends.number_ends.Given as goal

abbrev pub invariant-loop-top : goal.invariant-loop-top
invariant-loop-top l = l.ends.items ++ ends_from l.end (drop l.top-index l.tops) ≡ ends_from 0 l.fn.tops
