use Rattle.std.proofs.Common.{◌≡◌, drop}
use Rattle.recipe_values.specs.Brackets.{levels_of}
use Rattle.recipe_values.proofs.levels.levels_of.Given as goal

abbrev pub invariant-loop-i : goal.invariant-loop-i
invariant-loop-i l = l.levels ≡ levels_of l.bytes l.stop (drop l.i l.tokens)
