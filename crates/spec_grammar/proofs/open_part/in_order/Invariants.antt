use Rattle.std.proofs.Common.{◌≡◌, ◌++◌}
use Rattle.spec_grammar.proofs.open_part.in_order.Given as goal

abbrev pub invariant-loop-variant : goal.invariant-loop-variant
invariant-loop-variant l = l.all ++ l.variant-iterator ≡ l.fn.variants.entries
