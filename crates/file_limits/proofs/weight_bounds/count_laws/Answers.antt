use Rattle.file_limits.proofs.Texts.{texts-bear}
use Rattle.file_limits.proofs.Keys.{keys-share}
use Rattle.file_limits.proofs.weight_bounds.count_laws.Goals as goal

pub returns : goal.returns
returns c = record { texts = texts-bear; keys = keys-share }
