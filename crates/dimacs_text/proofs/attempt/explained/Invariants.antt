use Rattle.std.proofs.Common.{◌≡◌, ◌∷◌, codes, take}
use Rattle.run_input.specs.Words.{words_of}
use Rattle.dimacs_text.proofs.attempt.explained.Given as goal

abbrev pub invariant-loop-word : goal.invariant-loop-word
invariant-loop-word l = words_of l.all.items ≡ codes "explain" ∷ words_of (take l.word-index l.words)
