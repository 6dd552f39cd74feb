use Rattle.std.proofs.Common.{refl}
use Rattle.std.specs.List.Sorted.{IsStrictlySortedBy}
use Rattle.problem_rows.proofs.recipes.recipes_of.Goals as goal

pub loop-file-init : goal.loop-file-init
unfolding IsStrictlySortedBy
loop-file-init c = rw c.new-recipes.ensures.items (tt, refl)
