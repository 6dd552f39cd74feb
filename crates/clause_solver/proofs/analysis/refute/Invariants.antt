use Rattle.std.proofs.Common.{◌∷◌, []}
use Rattle.clause_solver.specs.Learning.{IsResolving}
use Rattle.clause_solver.proofs.analysis.refute.Given as goal

abbrev pub invariant-loop-before : goal.invariant-loop-before
invariant-loop-before l = IsResolving l.watch l.initial.seen l.seen (l.id ∷ []) l.chain l.end l.at

abbrev pub decreases-loop-before : goal.decreases-loop-before
decreases-loop-before l = l.at
