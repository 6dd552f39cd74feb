use Rattle.std.proofs.Common.{◌≡◌, map, drop}
use Rattle.std.specs.List.{list_any}
use Rattle.std.specs.Str.{bytes_eq}
use Rattle.json_readers.proofs.object.is_among.Given as goal

abbrev pub invariant-loop-other : goal.invariant-loop-other
invariant-loop-other l = list_any (bytes_eq l.text) (map (λ k. k.now) l.texts) ≡ list_any (bytes_eq l.text)
    (map (λ k. k.now) (drop l.other-index l.texts))
