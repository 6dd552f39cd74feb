use Rattle.std.proofs.Common.{[]}
use Rattle.std.proofs.lemmas.List.{replicate_more}
use Rattle.install_plan.proofs.by_wave.no_names.Goals as goal

pub loop-preserved : goal.loop-preserved
loop-preserved c = rw (c.in_ok-push.ensures.items, c.loop.invariant, c.new.ensures) (replicate_more c.loop.counter [])
