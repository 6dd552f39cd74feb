use Rattle.std.proofs.Common.{◌≡◌, drop}
use Rattle.log_checker.specs.Steps.{run_lines}
use Rattle.staged_search.proofs.checks.feed.Given as goal

abbrev pub invariant-loop-line : goal.invariant-loop-line
invariant-loop-line l = run_lines l.checker (drop l.line-index l.lines) ≡ run_lines l.fn.checker l.lines
