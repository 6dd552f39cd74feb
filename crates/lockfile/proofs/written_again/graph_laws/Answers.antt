use Rattle.lockfile.proofs.SameLaws.{nodes_again, providers_again}
use Rattle.lockfile.proofs.written_again.graph_laws.Goals as goal

pub returns-clause-nodes : goal.returns-clause-nodes
returns-clause-nodes c g records roots lock is each name = nodes_again g records roots lock is each name

pub returns-clause-providers : goal.returns-clause-providers
returns-clause-providers c g records roots lock is name = providers_again g records roots lock is name

pub returns-clause-roots : goal.returns-clause-roots
returns-clause-roots c g records roots lock is = is.roots
