use Rattle.reason_minimum.proofs.Reducing.{first-of}
use Rattle.reason_minimum.proofs.reduction.first_of.Goals as goal

pub returns : goal.returns
returns c = first-of c.args.candidates.now 0 c.requires
