use Rattle.std.proofs.Common.{◌≡◌, ◌++◌, drop}
use Rattle.spec_grammar.specs.Canonical.{below_text}
use Rattle.spec_grammar.proofs.write.write_below.Given as goal

abbrev pub invariant-loop-part : goal.invariant-loop-part
invariant-loop-part l = l.out.items ++ below_text (drop l.part-index l.below) ≡ l.initial.out.items ++ below_text l.below
