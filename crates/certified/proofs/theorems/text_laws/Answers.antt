use Rattle.certified.proofs.Stages.{settled-stays}
use Rattle.certified.proofs.TextLaws.{text-accepted, text-bad, text-written}
use Rattle.certified.proofs.theorems.text_laws.Goals as goal

pub returns-clause-settled : goal.returns-clause-settled
returns-clause-settled c = λ s text more h. (settled-stays s text more h).0

pub returns-clause-accepted : goal.returns-clause-accepted
returns-clause-accepted c = text-accepted

pub returns-clause-bad : goal.returns-clause-bad
returns-clause-bad c = text-bad

pub returns-clause-written : goal.returns-clause-written
returns-clause-written c = text-written
