use Rattle.std.proofs.Common.{◌≡◌, take, map}
use Rattle.keyed_lists.specs.Lent.{lent}
use Rattle.keyed_lists.proofs.Lent.{pair_of}
use Rattle.text_places.proofs.places.by_text.Given as goal

abbrev pub invariant-loop-one : goal.invariant-loop-one
invariant-loop-one l = lent l.entries.items ≡ map (pair_of (λ p. p.0.now)) (take l.one-index l.placed)
