use Rattle.std.proofs.Common.{◌≡◌, map, take}
use Rattle.spec_grammar.specs.Meaning.{target_of}
use Rattle.spec_grammar.proofs.values_set.targets_of.Given as goal

abbrev pub invariant-loop-value : goal.invariant-loop-value
invariant-loop-value l = l.targets ≡ map target_of (take l.value-index l.values)
