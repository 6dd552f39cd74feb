use Rattle.std.proofs.Common.{◌≡◌, map}
use Rattle.std.specs.List.{range_with_len}
use Rattle.problem.specs.declared.demand.Demand.TheVariants.{Root}
use Rattle.problem.proofs.demands.roots_of.Given as goal

abbrev pub invariant-loop-place : goal.invariant-loop-place
invariant-loop-place l = l.list ≡ map Root (range_with_len 0 l.place)
