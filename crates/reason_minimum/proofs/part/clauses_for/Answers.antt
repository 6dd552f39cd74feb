use Rattle.std.proofs.Common.{arith}
use Rattle.reason_minimum.proofs.Parting.{part-more}
use Rattle.reason_minimum.proofs.part.clauses_for.Goals as goal

pub loop-place-preserved : goal.loop-place-preserved
loop-place-preserved c = part-more c.args.demands.now c.args.clauses.now c.loop-place.part c.add_for.new.part c.loop-place.place
    (omega (arith, c.loop-place-test.true, c.len-place-end.ensures)) c.loop-place.invariant c.in_ok-add_for.ensures
