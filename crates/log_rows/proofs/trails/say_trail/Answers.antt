use Rattle.std.proofs.Common.{arith}
use Rattle.log_rows.proofs.Lengths.{length-lits}
use Rattle.log_rows.proofs.trails.say_trail.Goals as goal

pub at-placed-requires : goal.at-placed-requires
at-placed-requires c = omega (arith, length-lits c.args.watch.now.placed c.trail-at-end.result.now c.trail-at-end.ensures)
