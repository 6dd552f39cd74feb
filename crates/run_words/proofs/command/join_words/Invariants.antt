use Rattle.std.proofs.Common.{◌≡◌, take}
use Rattle.std.specs.String.{string_bytes}
use Rattle.run_words.specs.Words.{joined_words, words_of}
use Rattle.run_words.proofs.command.join_words.Given as goal

abbrev pub invariant-loop-word : goal.invariant-loop-word
invariant-loop-word l = string_bytes l.text ≡ joined_words l.first (words_of (take l.word-index l.more))
