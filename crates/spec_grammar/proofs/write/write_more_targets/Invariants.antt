use Rattle.std.proofs.Common.{◌≡◌, ◌++◌, drop}
use Rattle.spec_grammar.specs.Canonical.{more_targets}
use Rattle.spec_grammar.proofs.write.write_more_targets.Given as goal

abbrev pub invariant-loop-target : goal.invariant-loop-target
invariant-loop-target l = l.out.items ++ more_targets (drop l.target-index l.targets) ≡ l.initial.out.items ++ more_targets l.targets
