use Rattle.std.proofs.Common.{length}
use Rattle.dimacs_text.proofs.sums.+write_from.Given as goal

abbrev pub decreases-write_from : goal.decreases-write_from
decreases-write_from l = length l.tops.now
