use Rattle.std.proofs.Common.{◌≡◌, ◌++◌, drop}
use Rattle.virtuals.specs.Pairs.{all_pairs}
use Rattle.virtuals.proofs.providers.collected.Given as goal

abbrev pub invariant-loop-recipe : goal.invariant-loop-recipe
invariant-loop-recipe l = l.pairs.items ++ all_pairs (drop l.recipe-index l.recipes) ≡ all_pairs l.recipes
