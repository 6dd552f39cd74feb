use Rattle.proof_log.proofs.Written.{sound-written}
use Rattle.proof_log.proofs.text_theorems.written_laws.Goals as goal

pub returns : goal.returns
returns c = sound-written
