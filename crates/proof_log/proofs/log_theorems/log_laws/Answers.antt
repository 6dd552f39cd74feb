use Rattle.proof_log.proofs.Optimal.{certificate_least, refutation_none}
use Rattle.proof_log.proofs.SpentLaws.{spent_budget}
use Rattle.proof_log.proofs.Distinct.{useful-distinct}
use Rattle.proof_log.proofs.log_theorems.log_laws.Goals as goal

pub returns : goal.returns
returns c = record { least = certificate_least; refuted = refutation_none; spent = spent_budget; distinct = useful-distinct }
