use Rattle.log_trim.proofs.KindLaws.{certificate-trimmed, refutation-trimmed, spent-trimmed, over-trimmed, learnt-trimmed, length-trimmed}
use Rattle.log_trim.proofs.theorems.trim_laws.Goals as goal

pub returns-clause-certificate : goal.returns-clause-certificate
returns-clause-certificate c = certificate-trimmed

pub returns-clause-refutation : goal.returns-clause-refutation
returns-clause-refutation c = refutation-trimmed

pub returns-clause-spent : goal.returns-clause-spent
returns-clause-spent c = λ vars input bits budget lines s. spent-trimmed lines s.last

pub returns-clause-over : goal.returns-clause-over
returns-clause-over c = over-trimmed

pub returns-clause-fewer : goal.returns-clause-fewer
returns-clause-fewer c = learnt-trimmed

pub returns-clause-shorter : goal.returns-clause-shorter
returns-clause-shorter c = length-trimmed
