use Rattle.level_encoding.proofs.RuleLaws.{turns-step}
use Rattle.level_encoding.proofs.arc_rules.end_of.Goals as goal

pub loop-arc-preserved : goal.loop-arc-preserved
loop-arc-preserved c = turns-step c.args.input.now c.loop-arc.turn c.turns.result c.loop-arc.arc-index c.arcs-arc-items.result.now _
    c.loop-arc-test.true c.turns.ensures c.loop-arc.invariant
