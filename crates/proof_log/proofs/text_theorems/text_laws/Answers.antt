use Rattle.proof_log.proofs.RangeLaws.{reads-spelled}
use Rattle.proof_log.proofs.text_theorems.text_laws.Goals as goal

pub returns : goal.returns
returns c = reads-spelled
