use Rattle.std.proofs.Common.{◌≡◌, ◌++◌, List, flat_map, map}
use Rattle.std.specs.Prelude.{Ok}
use Rattle.std.specs.List.{AllZip}
use Rattle.recipe_reader.specs.declared.files.RecipeFile.{RecipeFile as File}
use Rattle.recipe_reader.specs.Files.{recipe_in_file, IsReadOf}
use Rattle.recipe_reader.proofs.beside.put_together.Given as goal

abbrev pub invariant-loop-answer : goal.invariant-loop-answer
invariant-loop-answer l = record {
  so_far : (parts : List (List File)) → AllZip IsReadOf parts l.yielded
      → map recipe_in_file (flat_map (λ part. part) parts) ≡ map Ok l.recipes.items;
  rest : l.yielded ++ l.answer-iterator.rest.items ≡ l.fn.answers.items;
}
