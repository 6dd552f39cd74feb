use Rattle.std.proofs.Common.{[]}
use Rattle.table_plan.proofs.GatherLaws.{from_gathered, to_gathered, gathered_once}
use Rattle.table_plan.proofs.plan_theorems.gathering_laws.Goals as goal

pub returns-clause-elements : goal.returns-clause-elements
returns-clause-elements g c = λ same exact list xs q. (from_gathered same exact list xs q, to_gathered same exact list xs q)

pub returns-clause-once : goal.returns-clause-once
returns-clause-once g c = λ same exact xs. gathered_once same exact [] xs tt
