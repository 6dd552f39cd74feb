use Rattle.total_readings.proofs.Posed.{words_pose}
use Rattle.total_readings.proofs.theorems.posed_total.Goals as goal

pub returns : goal.returns
returns c = record { total = words_pose c.reading_is_total.ensures.total }
