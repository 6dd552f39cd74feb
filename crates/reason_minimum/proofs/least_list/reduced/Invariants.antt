use Rattle.reason_minimum.specs.Reductions.{Reduces, left_of}
use Rattle.reason_minimum.proofs.least_list.reduced.Given as goal

abbrev pub invariant-rounds : goal.invariant-rounds
invariant-rounds l = Reduces l.clauses l.reduction

abbrev pub decreases-rounds : goal.decreases-rounds
decreases-rounds l = left_of l.reduction
