use Rattle.std.proofs.Common.{◌≡◌, ◌+◌, ◌*◌, List, Bor, get_or, ap, ◌∙◌, subst, arith}
use Rattle.recipe_reader.specs.Files.{IsReadOf}
use Rattle.recipe_reader.specs.declared.files.RecipeFile.{RecipeFile}
use Rattle.recipe_reader.proofs.beside.read_each.Goals as goal

pub returns-clause-each : goal.returns-clause-each
returns-clause-each g c = λ i d e h.
    let given = (c.in_ok-answers.ensures.each i e (omega arith)).1 in
    let first = given.argument_is.elements 0 d given.argument_is.nonempty in
    let same : i * 1 + 0 ≡ i = omega arith in
    subst (λ (part : Bor (List RecipeFile)). IsReadOf part.now (get_or c.in_ok-answers.answers.items i e))
    (first ∙ ap (λ n. get_or c.args.parts.now n d) same) (given.call d)
