use Rattle.proof_log.proofs.LogLaws.{log-reads, one-line}
use Rattle.proof_log.proofs.ReaderLaws.{stays}
use Rattle.proof_log.proofs.text_theorems.reading_laws.Goals as goal

pub returns-clause-reads_back : goal.returns-clause-reads_back
returns-clause-reads_back c = log-reads

pub returns-clause-stays : goal.returns-clause-stays
returns-clause-stays c = stays

pub returns-clause-one_line : goal.returns-clause-one_line
returns-clause-one_line c = one-line
