use Rattle.clause_formulas.proofs.AgainLaws.{define-again}
use Rattle.clause_formulas.proofs.theorems.gate_laws.Goals as goal

pub returns : goal.returns
returns c = record { again = define-again }
