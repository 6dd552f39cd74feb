use Rattle.total_readings.proofs.Locks.{lock_said}
use Rattle.total_readings.proofs.theorems.lock_total.Goals as goal

pub returns : goal.returns
returns c = record { total = lock_said }
