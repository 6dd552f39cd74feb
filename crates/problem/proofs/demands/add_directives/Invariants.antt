use Rattle.std.proofs.Common.{◌≡◌, ◌++◌, map, drop}
use Rattle.problem.specs.declared.demand.Demand.TheVariants.{Directive}
use Rattle.problem.proofs.demands.add_directives.Given as goal

abbrev pub invariant-loop-number : goal.invariant-loop-number
invariant-loop-number l = l.list ++ map (Directive l.name) (drop l.number-index l.numbers) ≡ l.fn.list ++ map (Directive l.name) l.numbers
