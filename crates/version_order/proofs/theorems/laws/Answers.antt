use Rattle.version_order.proofs.OrderLaws.{version_total, version_apart, version_same}
use Rattle.version_order.proofs.SameLaws.{same_by_order}
use Rattle.version_order.proofs.theorems.laws.Goals as goal

pub returns-clause-total : goal.returns-clause-total
returns-clause-total c = version_total

pub returns-clause-equal : goal.returns-clause-equal
returns-clause-equal c = λ a b. (version_apart a b, version_same a b)

pub returns-clause-same : goal.returns-clause-same
returns-clause-same c = same_by_order
