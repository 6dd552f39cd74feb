use Rattle.std.proofs.Common.{◌≡◌, ◌++◌}
use Rattle.term_builder.proofs.governing.push_all.Given as goal

abbrev pub invariant-loop-part : goal.invariant-loop-part
invariant-loop-part l = l.blocks.items ++ l.part-iterator.rest.items ≡ l.fn.blocks.items ++ l.fn.parts.items
