use Rattle.total_readings.proofs.Files.{settings_said}
use Rattle.total_readings.proofs.theorems.settings_total.Goals as goal

pub returns : goal.returns
returns c = record { total = settings_said c.reading_is_total.ensures.total }
