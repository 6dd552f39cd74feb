use Rattle.std.proofs.Common.{◌∙◌}
use Rattle.log_checker.specs.Signs.{sign_of}
use Rattle.log_checker.proofs.Overlays.{put-step}
use Rattle.log_checker.proofs.chain.put_all.Goals as goal

pub loop-lit-preserved : goal.loop-lit-preserved
loop-lit-preserved c = λ x. put-step c.args.lits.now c.loop-lit.lit-index _ (sign_of c.loop-lit.signs)
    (sign_of c.put.new.self) c.loop-lit-test.true c.in_ok-put.ensures x ∙ c.loop-lit.invariant x
