use Rattle.std.proofs.Common.{drop}
use Rattle.clause_store.specs.Lits.{IsClause}
use Rattle.proof_log.specs.Lines.{AllLines, OfLearnt}
use Rattle.staged_search.proofs.checks.are_typed.Given as goal

abbrev pub invariant-loop-line : goal.invariant-loop-line
invariant-loop-line l = AllLines (λ x. OfLearnt IsClause x) (drop l.line-index l.lines) → AllLines (λ x. OfLearnt IsClause x) l.lines
