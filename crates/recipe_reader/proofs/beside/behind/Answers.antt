use Rattle.recipe_reader.proofs.PartLaws.{stands_behind}
use Rattle.recipe_reader.proofs.beside.behind.Goals as goal

pub returns : goal.returns
returns c = λ front files more recipes are count fits fails.
    rw c.saturating_add.ensures (stands_behind c.args.fault.0 c.args.before c.args.fault.1 front files more recipes are count fits fails)
