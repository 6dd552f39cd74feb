use Rattle.std.proofs.Common.{◌≡◌, take, map}
use Rattle.keyed_lists.specs.Lent.{lent}
use Rattle.keyed_lists.proofs.Lent.{pair_of}
use Rattle.term_builder.proofs.definitions.by_variant.Given as goal

abbrev pub invariant-loop-one : goal.invariant-loop-one
invariant-loop-one l = lent l.entries.items ≡ map (pair_of (λ h. h.0.name)) (take l.one-index l.held)
