use Rattle.reason_minimum.proofs.Placing.{Passes}
use Rattle.reason_minimum.proofs.numbers.insertion_place.Given as goal

abbrev pub invariant-loop-place : goal.invariant-loop-place
invariant-loop-place l = Passes l.numbers l.number l.place
