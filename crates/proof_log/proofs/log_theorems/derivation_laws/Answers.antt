use Rattle.proof_log.proofs.Chains.{chain_fault-is}
use Rattle.proof_log.proofs.Optimal.{derived-true}
use Rattle.proof_log.proofs.Useful.{useful-new}
use Rattle.proof_log.proofs.log_theorems.derivation_laws.Goals as goal

pub returns : goal.returns
returns c = record { holds = derived-true; checked = chain_fault-is; new = useful-new }
