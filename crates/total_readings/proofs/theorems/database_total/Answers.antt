use Rattle.total_readings.proofs.Databases.{database_said}
use Rattle.total_readings.proofs.theorems.database_total.Goals as goal

pub returns : goal.returns
returns c = record { total = database_said }
