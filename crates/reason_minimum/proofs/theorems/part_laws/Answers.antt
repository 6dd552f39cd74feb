use Rattle.reason_minimum.proofs.Parting.{Meets-part}
use Rattle.reason_minimum.proofs.theorems.part_laws.Goals as goal

pub returns : goal.returns
returns c = Meets-part
