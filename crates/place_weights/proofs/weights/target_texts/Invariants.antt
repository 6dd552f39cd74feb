use Rattle.std.proofs.Common.{◌≡◌, ◌++◌, drop, map}
use Rattle.place_weights.proofs.weights.target_texts.Given as goal

abbrev pub invariant-loop-entry : goal.invariant-loop-entry
invariant-loop-entry l = map (λ text. text.now) l.texts.items ++ map (λ entry. entry.name) (drop l.entry-index l.entries)
    ≡ map (λ entry. entry.name) l.entries
