use Rattle.std.proofs.Common.{sym, subst, List, Ok}
use Rattle.recipe_data.specs.declared.recipe.Recipe.{Recipe}
use Rattle.run_input.specs.Inputs.{OverSources}
use Rattle.run_input.proofs.repository.read_pile.Goals as goal

pub returns-in-Ok-clause-read : goal.returns-in-Ok-clause-read
returns-in-Ok-clause-read g c =
    subst (λ (recipes : List Recipe). OverSources c.args.sources.files (Ok recipes)) (sym c.new.ensures)
    (rw c.into_files.ensures.files at c.in-Ok.ensures.read)
