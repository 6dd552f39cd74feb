use Rattle.std.proofs.Common.{◌≡◌, ◌++◌, map}
use Rattle.std.specs.List.{range_with_len}
use Rattle.problem.specs.declared.demand.Demand.TheVariants.{Setting}
use Rattle.problem.proofs.demands.add_settings.Given as goal

abbrev pub invariant-loop-place : goal.invariant-loop-place
invariant-loop-place l = l.list ≡ l.fn.list ++ map (Setting l.name) (range_with_len 0 l.place)
