use Rattle.std.proofs.Common.{◌≡◌, ◌++◌, take}
use Rattle.table_building.proofs.wanted.add_words.Given as goal

abbrev pub invariant-loop-word : goal.invariant-loop-word
invariant-loop-word l = l.wanted.items ≡ l.initial.wanted.items ++ take l.word-index l.words
