use Rattle.std.proofs.Common.{◌≡◌, ◌++◌, take}
use Rattle.dimacs_text.specs.Clauses.{clause_lines}
use Rattle.dimacs_text.proofs.clauses.write_clauses.Given as goal

abbrev pub invariant-loop-place : goal.invariant-loop-place
invariant-loop-place l = l.out.items ≡ l.fn.out.items ++ clause_lines (take l.place l.clauses.entries)
