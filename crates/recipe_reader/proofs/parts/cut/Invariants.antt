use Rattle.std.proofs.Common.{◌≡◌, ◌++◌, flat_map}
use Rattle.recipe_reader.proofs.parts.cut.Given as goal

abbrev pub invariant-loop : goal.invariant-loop
invariant-loop l = flat_map (λ part. part.now) l.cut.items ++ l.rest ≡ l.files
