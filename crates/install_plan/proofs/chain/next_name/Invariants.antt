use Rattle.std.proofs.Common.{ℕ, ◌<◌, [], get_or}
use Rattle.std.specs.Option.{option_copied}
use Rattle.install_plan.specs.Chains.{MayComeBelow}
use Rattle.install_plan.proofs.chain.next_name.Given as goal

abbrev pub invariant-loop-name : goal.invariant-loop-name
invariant-loop-name l = (k : ℕ) → k < l.name-index → MayComeBelow l.graph (option_copied l.above) (get_or l.names k []) → ⊥
