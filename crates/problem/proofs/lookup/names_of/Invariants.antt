use Rattle.std.proofs.Common.{◌≡◌, take, map}
use Rattle.problem.proofs.lookup.names_of.Given as goal

abbrev pub invariant-loop-variant : goal.invariant-loop-variant
invariant-loop-variant l = l.names.items ≡ map (λ v. v.0) (take l.variant-index l.variants)
