use Rattle.std.proofs.Common.{◌≡◌, ◌++◌, take}
use Rattle.dimacs_text.specs.Choices.{value_lines}
use Rattle.dimacs_text.proofs.choices.write_values.Given as goal

abbrev pub invariant-loop-choice : goal.invariant-loop-choice
invariant-loop-choice l = l.out.items ≡ l.fn.out.items ++ value_lines l.name (l.variant, take l.choice-index l.values)
