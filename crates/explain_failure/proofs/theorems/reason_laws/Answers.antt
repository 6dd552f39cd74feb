use Rattle.explain_failure.proofs.Refuting.{no-model}
use Rattle.explain_failure.proofs.theorems.reason_laws.Goals as goal

pub returns : goal.returns
returns c = record { no_model = no-model }
