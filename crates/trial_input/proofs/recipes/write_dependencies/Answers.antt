use Rattle.std.proofs.Common.{◌++◌}
use Rattle.trial_input.specs.Recipes.{dependencies}
use Rattle.trial_input.proofs.Counts.{needs_step}
use Rattle.trial_input.proofs.recipes.write_dependencies.Goals as goal

pub loop-more-preserved : goal.loop-more-preserved
loop-more-preserved c =
    let whole = dependencies c.args.packages c.args.own c.args.count c.args.draws.now.state in
    needs_step c.loop-more.out.items c.write_dependency.new.out.items (c.args.out.now.items ++ whole.text)
    c.args.packages c.args.own c.loop-more._more c.args.count c.loop-more.draws.state c.write_dependency.new.draws.state whole.state
    c.loop-more-test.true c.in_ok-write_dependency.ensures.text c.in_ok-write_dependency.ensures.state c.loop-more.invariant.0
    c.loop-more.invariant.1
