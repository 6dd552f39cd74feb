use Rattle.std.proofs.Common.{◌≡◌, length}
use Rattle.std.specs.Prelude.{Ok}
use Rattle.recipe_values.specs.Reads.{join}
use Rattle.recipe_values.specs.Values.{texts}
use Rattle.recipe_values.proofs.values.add_texts.Given as goal

abbrev pub invariant-atoms : goal.invariant-atoms
invariant-atoms l =
    join (Ok l.text.items) (texts l.bytes l.place l.left) ≡ join (Ok l.fn.text.items) (texts l.bytes l.place l.fn.atoms)

abbrev pub decreases-atoms : goal.decreases-atoms
decreases-atoms l = length l.left
