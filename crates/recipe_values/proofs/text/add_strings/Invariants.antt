use Rattle.std.proofs.Common.{◌≡◌, drop}
use Rattle.std.specs.Prelude.{Ok}
use Rattle.recipe_values.specs.Reads.{join}
use Rattle.recipe_values.specs.Strings.{strings}
use Rattle.recipe_values.proofs.text.add_strings.Given as goal

abbrev pub invariant-loop-token : goal.invariant-loop-token
invariant-loop-token l =
    join (Ok l.text.items) (strings l.bytes (drop l.token-index l.tokens)) ≡ join (Ok l.fn.text.items) (strings l.bytes l.tokens)
