use Rattle.std.proofs.Common.{ap, ◌∙◌, not}
use Rattle.word_formulas.proofs.Steps.{filled-length}
use Rattle.word_formulas.proofs.asked.is_filled.Goals as goal

pub returns : goal.returns
returns g c = ap not c.is_empty.ensures ∙ filled-length c.args.items.now
