use Rattle.std.proofs.Common.{◌≡◌, ◌++◌, take}
use Rattle.dimacs_text.specs.Choices.{choice_lines}
use Rattle.dimacs_text.proofs.choices.write_choices.Given as goal

abbrev pub invariant-loop-choice : goal.invariant-loop-choice
invariant-loop-choice g l = l.out.items ≡ l.fn.out.items
    ++ choice_lines g.T.Meaning.meaning_of l.kind l.name (take l.choice-index l.choices)
