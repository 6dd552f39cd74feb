use Rattle.std.proofs.Common.{◌≡◌, ◌≤◌, drop}
use Rattle.recipe_reader.specs.Recipes.{read_items}
use Rattle.recipe_reader.proofs.read.read_items.Given as goal

abbrev pub invariant-loop-i : goal.invariant-loop-i
invariant-loop-i l =
    (l.number ≤ l.i) × (read_items l.bytes l.tokens l.number (drop l.i l.items) l.state ≡ read_items l.bytes l.tokens 0 l.items l.fn.state)
