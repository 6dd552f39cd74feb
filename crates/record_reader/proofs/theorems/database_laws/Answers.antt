use Rattle.record_reader.proofs.OneLaws.{database_one, fault_one, database_right}
use Rattle.record_reader.proofs.theorems.database_laws.Goals as goal

pub returns : goal.returns
returns c = record { one_reading = database_one; one_fault = fault_one; right = database_right }
