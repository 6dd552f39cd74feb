use Rattle.std.proofs.Common.{◌≡◌, ◌++◌, map, drop}
use Rattle.std.specs.List.{range_with_len}
use Rattle.problem.specs.Demands.{directives_of}
use Rattle.problem.specs.declared.demand.Demand.TheVariants.{Root}
use Rattle.problem.proofs.demands.demands_of.Given as goal

abbrev pub invariant-loop-recipe : goal.invariant-loop-recipe
invariant-loop-recipe l = l.list ++ directives_of (drop l.recipe-index l.recipes) ≡ map Root (range_with_len 0 l.roots)
    ++ directives_of l.recipes
