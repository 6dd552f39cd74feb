use Rattle.std.proofs.Common.{arith}
use Rattle.clause_solver.proofs.Levels.{level-none, level-high, level-low}
use Rattle.clause_solver.proofs.analysis.backjump_level_of.Goals as goal

pub returns-then-level-depth : goal.returns-then-level-depth
returns-then-level-depth c = level-low c.args.watch.now.vars c.args.watch.now.placed c.requires.right.orderly c.args.lit c.level.result
    c.level.ensures c.in-Some.level c.in-Some.is (omega (arith, c.requires.depth))

pub returns-else-level-depth : goal.returns-else-level-depth
returns-else-level-depth c = level-high c.args.watch.now.vars c.args.watch.now.placed c.requires.right.orderly c.args.lit c.level.result
    c.level.ensures c.in-Some.level c.in-Some.is (omega (arith, c.requires.depth))

pub returns-in-None : goal.returns-in-None
returns-in-None c = level-none c.args.watch.now.vars c.args.watch.now.placed c.requires.right.orderly c.args.lit c.level.result
    c.level.ensures c.in-None.is
