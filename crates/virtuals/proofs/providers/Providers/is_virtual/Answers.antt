use Rattle.std.proofs.Common.{◌∙◌, ap, not}
use Rattle.std.specs.Str.{bytes_eq}
use Rattle.recipe_data.specs.OfGraphCore.Graphs.{Text}
use Rattle.virtuals.proofs.PairLaws.{some_kept}
use Rattle.virtuals.proofs.providers.Providers.is_virtual.Goals as goal

pub returns : goal.returns
returns c = ap not c.is_empty.ensures ∙ rw c.possible-run.ensures
    (some_kept (λ (pair : Text × Text). bytes_eq pair.0 c.args.name.now) c.args.self.now)
