use Rattle.std.proofs.Common.{◌≡◌, map, take}
use Rattle.std.specs.Prelude.{Ok}
use Rattle.recipe_reader.specs.Files.{recipe_in_file}
use Rattle.recipe_reader.proofs.files.read_all.Given as goal

abbrev pub invariant-loop-i : goal.invariant-loop-i
invariant-loop-i l = map recipe_in_file (take l.i l.files) ≡ map Ok l.recipes
