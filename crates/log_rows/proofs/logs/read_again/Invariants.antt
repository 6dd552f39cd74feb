use Rattle.std.proofs.Common.{length}
use Rattle.log_rows.proofs.logs.read_again.Given as goal

abbrev pub decreases-loop-rest : goal.decreases-loop-rest
decreases-loop-rest l = length l.rest
