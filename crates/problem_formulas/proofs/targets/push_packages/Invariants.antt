use Rattle.std.proofs.Common.{◌≡◌, ◌++◌, take}
use Rattle.literal_table.specs.Choices.{choice_values}
use Rattle.problem_formulas.proofs.targets.push_packages.Given as goal

abbrev pub invariant-loop-choice : goal.invariant-loop-choice
invariant-loop-choice l = l.names.items ≡ l.initial.names.items ++ choice_values (take l.choice-index l.packages)
