use Rattle.std.proofs.Common.{◌≡◌, ◌+◌, drop, false}
use Rattle.std.specs.Prelude.{Ok}
use Rattle.recipe_values.specs.Reads.{join}
use Rattle.recipe_values.specs.Strings.{decoded}
use Rattle.recipe_values.proofs.text.add_decoded.Given as goal

abbrev pub invariant-loop-i : goal.invariant-loop-i
invariant-loop-i l =
    join (Ok l.text.items) (decoded (l.place + l.i) l.taken (drop l.i l.bytes)) ≡ join (Ok l.fn.text.items) (decoded l.place false l.bytes)
