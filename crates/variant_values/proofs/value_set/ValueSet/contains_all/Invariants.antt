use Rattle.std.proofs.Common.{All, Contains, take}
use Rattle.variant_values.proofs.value_set.ValueSet.contains_all.Given as goal

abbrev pub invariant-loop-value : goal.invariant-loop-value
invariant-loop-value l = All (Contains l.self) (take l.value-index l.value-items)
