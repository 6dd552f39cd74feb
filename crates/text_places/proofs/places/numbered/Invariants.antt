use Rattle.std.proofs.Common.{◌≡◌, ◌++◌, drop, map}
use Rattle.text_places.specs.Places.{numbers_of, numbered}
use Rattle.text_places.proofs.places.numbered.Given as goal

abbrev pub invariant-loop-place : goal.invariant-loop-place
invariant-loop-place l =
    numbers_of l.placed.items ++ numbered l.place (map (λ text. text.now) (drop l.place l.texts))
    ≡ numbered 0 (map (λ text. text.now) l.texts)
