use Rattle.std.proofs.Common.{◌≡◌, ◌++◌, drop}
use Rattle.spec_grammar.specs.Items.{spell_more_values}
use Rattle.spec_grammar.proofs.write.write_more.Given as goal

abbrev pub invariant-loop-value : goal.invariant-loop-value
invariant-loop-value l = l.out.items ++ spell_more_values (drop l.value-index l.values) ≡ l.initial.out.items ++ spell_more_values l.values
