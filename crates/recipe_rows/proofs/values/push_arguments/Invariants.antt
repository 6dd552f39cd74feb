use Rattle.std.proofs.Common.{length}
use Rattle.recipe_rows.proofs.values.push_arguments.Given as goal

abbrev pub decreases-segments : goal.decreases-segments
decreases-segments l = length l.left
