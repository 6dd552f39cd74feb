use Rattle.std.proofs.Common.{◌≡◌, ◌++◌}
use Rattle.term_builder.proofs.assembly.push_all.Given as goal

abbrev pub invariant-loop-term : goal.invariant-loop-term
invariant-loop-term l = l.terms.items ++ l.term-iterator.rest.items ≡ l.fn.terms.items ++ l.fn.more.items
