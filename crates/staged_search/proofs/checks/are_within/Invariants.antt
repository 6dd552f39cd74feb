use Rattle.std.proofs.Common.{drop, ◌≤◌}
use Rattle.proof_log.specs.Lines.{learnt_in}
use Rattle.staged_search.proofs.checks.are_within.Given as goal

abbrev pub invariant-loop-line : goal.invariant-loop-line
invariant-loop-line l = learnt_in (drop l.line-index l.lines) ≤ l.left → learnt_in l.lines ≤ l.budget
