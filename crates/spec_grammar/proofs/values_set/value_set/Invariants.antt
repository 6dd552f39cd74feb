use Rattle.std.proofs.Common.{◌≡◌, map, take}
use Rattle.spec_grammar.specs.Meaning.{truth}
use Rattle.spec_grammar.proofs.values_set.value_set.Given as goal

abbrev pub invariant-loop-value : goal.invariant-loop-value
invariant-loop-value l = l.words.items ≡ map truth (take l.value-index l.values)
