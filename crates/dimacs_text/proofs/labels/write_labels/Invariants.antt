use Rattle.std.proofs.Common.{◌≡◌, ◌++◌, take}
use Rattle.dimacs_text.specs.Labels.{label_lines}
use Rattle.dimacs_text.proofs.labels.write_labels.Given as goal

abbrev pub invariant-loop-place : goal.invariant-loop-place
invariant-loop-place l = l.out.items ≡ l.fn.out.items ++ label_lines l.problem 1 (take l.place l.clauses.entries)
