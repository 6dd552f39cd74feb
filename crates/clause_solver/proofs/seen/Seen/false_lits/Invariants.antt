use Rattle.clause_solver.specs.Seen.{seen_at}
use Rattle.clause_solver.proofs.Listing.{AreFalsified}
use Rattle.clause_solver.proofs.seen.Seen.false_lits.Given as goal

abbrev pub invariant-loop-var : goal.invariant-loop-var
invariant-loop-var l = AreFalsified (seen_at l.self) l.watch.placed l.var-items l.var-index l.lits.items
