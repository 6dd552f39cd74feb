use Rattle.std.proofs.Common.{◌∙◌}
use Rattle.virtuals.proofs.VirtualLaws.{clash_agrees}
use Rattle.virtuals.proofs.clash.first_clash.Goals as goal

pub returns : goal.returns
returns c = c.first_provided.ensures ∙ clash_agrees c.args.recipes.now c.args.providers.now c.requires
