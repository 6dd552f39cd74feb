use Rattle.std.proofs.Common.{arith, ◌^◌}
use Rattle.std.proofs.lemmas.Bool.{le-leb}
use Rattle.problem.specs.Limits.{size_of_recipes}
use Rattle.file_limits.proofs.FileSizes.{recipe-fits, recipes-fit}
use Rattle.file_limits.proofs.recipe_sizes.size_laws.Goals as goal

pub returns : goal.returns
returns c = record {
  file = recipe-fits;
  files = recipes-fit (λ file. file.0) (λ file. file.1);
  within = λ files recipes read short.
      le-leb (size_of_recipes recipes) (2 ^ 28) (omega (arith, recipes-fit (λ file. file.0) (λ file. file.1) files recipes read, short));
}
