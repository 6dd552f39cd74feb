use Rattle.clause_solver.specs.Learning.{ResolvesDown}
use Rattle.clause_solver.proofs.analysis.resolve_to_first_uip.Given as goal

abbrev pub invariant-loop-before : goal.invariant-loop-before
invariant-loop-before l = ResolvesDown l.watch l.fn.seen l.seen l.fn.chain l.chain l.at

abbrev pub decreases-loop-before : goal.decreases-loop-before
decreases-loop-before l = l.at
