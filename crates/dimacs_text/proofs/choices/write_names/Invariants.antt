use Rattle.std.proofs.Common.{◌≡◌, ◌++◌, take}
use Rattle.std.specs.List.{flat_map}
use Rattle.dimacs_text.specs.Choices.{name_line}
use Rattle.dimacs_text.proofs.choices.write_names.Given as goal

abbrev pub invariant-loop-choice : goal.invariant-loop-choice
invariant-loop-choice l = l.out.items ≡ l.fn.out.items ++ flat_map (name_line l.edge) (take l.choice-index l.virtuals)
