use Rattle.std.proofs.Common.{◌≡◌, ◌++◌, take}
use Rattle.dimacs_text.specs.Meanings.{safe_text}
use Rattle.dimacs_text.proofs.meanings.write_safe.Given as goal

abbrev pub invariant-loop-byte : goal.invariant-loop-byte
invariant-loop-byte l = l.out.items ≡ l.fn.out.items ++ safe_text (take l.byte-index l.text)
