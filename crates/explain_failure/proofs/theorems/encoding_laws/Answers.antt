use Rattle.explain_failure.proofs.Refuting.{nothing-right}
use Rattle.explain_failure.proofs.theorems.encoding_laws.Goals as goal

pub returns : goal.returns
returns g c = record { none = nothing-right }
