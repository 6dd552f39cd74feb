use Rattle.std.proofs.Common.{◌≡◌, drop}
use Rattle.run_words.specs.Numbers.{digits_behind}
use Rattle.run_words.proofs.number.digits_behind.Given as goal

abbrev pub invariant-loop-byte : goal.invariant-loop-byte
invariant-loop-byte l = digits_behind l.number (drop l.byte-index l.text) ≡ digits_behind l.fn.value l.fn.text
