use Rattle.std.proofs.Common.{◌≡◌, length}
use Rattle.std.specs.Prelude.{Ok}
use Rattle.recipe_values.specs.Reads.{join}
use Rattle.recipe_values.specs.Brackets.{elements}
use Rattle.recipe_values.proofs.brackets.elements.Given as goal

abbrev pub invariant-segments : goal.invariant-segments
invariant-segments l = join (Ok l.found) (elements l.bytes l.left) ≡ elements l.bytes l.fn.segments

abbrev pub decreases-segments : goal.decreases-segments
decreases-segments l = length l.left
