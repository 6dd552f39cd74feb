use Rattle.log_checker.specs.Steps.{run_lines}
use Rattle.certified.proofs.Feeding.{fed}
use Rattle.certified.proofs.check.feed.Goals as goal

pub loop-rest-preserved : goal.loop-rest-preserved
loop-rest-preserved g c =
    fed c.loop-rest.checker c.step_block.new.self
    (run_lines c.args.checker.now c.args.lines.now) c.loop-rest.rest.now c.split_at.result.0.now c.split_at.result.1.now _
    c.in_ok-step_block.ensures.next c.split_at.ensures.front c.split_at.ensures.back c.loop-rest.invariant
