use Rattle.version_order.specs.Signs.{IsVersion}
use Rattle.version_order.proofs.VersionLaws.{one_place, bad_within}
use Rattle.version_order.proofs.theorems.reading_laws.Goals as goal

pub returns-clause-one_place : goal.returns-clause-one_place
returns-clause-one_place c = one_place IsVersion

pub returns-clause-within : goal.returns-clause-within
returns-clause-within c = λ text p fault. bad_within text p fault.0 fault.1
