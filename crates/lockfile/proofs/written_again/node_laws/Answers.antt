use Rattle.lockfile.proofs.NodeLaws.{node_again, same_hash}
use Rattle.lockfile.proofs.written_again.node_laws.Goals as goal

pub returns-clause-read : goal.returns-clause-read
returns-clause-read c entry origin fit own = node_again entry origin fit own

pub returns-clause-hash : goal.returns-clause-hash
returns-clause-hash c entry = same_hash entry
