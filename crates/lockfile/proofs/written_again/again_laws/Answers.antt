use Rattle.lockfile.proofs.AgainLaws.{text_is_lock}
use Rattle.lockfile.proofs.written_again.again_laws.Goals as goal

pub returns : goal.returns
returns c g records roots graph right can fit text json = text_is_lock g records roots graph right can fit text json
