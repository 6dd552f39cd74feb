use Rattle.version_order.specs.Items.{IsList}
use Rattle.version_order.proofs.VersionLaws.{one_place}
use Rattle.version_order.proofs.SoFarLaws.{one_reading}
use Rattle.version_order.proofs.EmptyLaws.{first_at, none_at}
use Rattle.version_order.proofs.RightLaws.{only_memory, one_fault}
use Rattle.version_order.proofs.set_theorems.set_reading_laws.Goals as goal

pub returns-clause-one_reading : goal.returns-clause-one_reading
returns-clause-one_reading c = one_reading

pub returns-clause-right : goal.returns-clause-right
returns-clause-right c = only_memory

pub returns-clause-one_place : goal.returns-clause-one_place
returns-clause-one_place c = one_place IsList

pub returns-clause-first_empty : goal.returns-clause-first_empty
returns-clause-first_empty c = first_at

pub returns-clause-none_empty : goal.returns-clause-none_empty
returns-clause-none_empty c = none_at

pub returns-clause-one_fault : goal.returns-clause-one_fault
returns-clause-one_fault c = one_fault
