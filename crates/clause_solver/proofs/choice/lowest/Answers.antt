use Rattle.std.proofs.Common.{sym}
use Rattle.clause_watch.proofs.Meaning.{value-free}
use Rattle.clause_solver.proofs.choice.lowest.Goals as goal

pub returns-in-None-clause-free : goal.returns-in-None-clause-free
returns-in-None-clause-free c = value-free c.args.watch.now.placed c.loop-x.x (sym c.in-None.ensures)
