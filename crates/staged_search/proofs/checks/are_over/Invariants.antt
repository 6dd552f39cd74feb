use Rattle.std.proofs.Common.{drop}
use Rattle.proof_log.specs.Certificates.{AreOver}
use Rattle.staged_search.proofs.checks.are_over.Given as goal

abbrev pub invariant-loop-line : goal.invariant-loop-line
invariant-loop-line l = AreOver l.vars (drop l.line-index l.lines) → AreOver l.vars l.lines
