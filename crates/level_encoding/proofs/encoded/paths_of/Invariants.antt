use Rattle.std.proofs.Common.{◌≡◌, map, take}
use Rattle.level_encoding.specs.Encoding.{way}
use Rattle.level_encoding.proofs.encoded.paths_of.Given as goal

abbrev pub invariant-loop-pair : goal.invariant-loop-pair
invariant-loop-pair l = l.paths.items ≡ map (λ pair. way l.input pair.1 pair.0) (take l.pair-index l.pair-items)
