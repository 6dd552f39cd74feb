use Rattle.clause_solver.proofs.Minimizing.{low-reason}
use Rattle.clause_solver.proofs.analysis.level_zero_reason.Goals as goal

pub returns : goal.returns
returns c = low-reason c.args.watch.now c.requires.right c.args.lit c.in-Some.level c.in-Some-reason.id c.if-level-gt0.false
    c.in-Some.ensures c.in-Some-reason.ensures
