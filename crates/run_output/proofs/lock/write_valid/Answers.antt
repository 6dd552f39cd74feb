use Rattle.std.proofs.Common.{sym}
use Rattle.run_output.proofs.Written.{can}
use Rattle.run_output.proofs.lock.write_valid.Goals as goal

pub write_lock-requires : goal.write_lock-requires
write_lock-requires c =
    rw (c.database.ensures, c.roots.ensures)
    (can c.args.problem.now c.args.graph.now c.nodes-nodes.ensures.graph c.requires.keeps c.requires.texts)

pub returns-clause-read : goal.returns-clause-read
returns-clause-read c = rw (sym c.database.ensures, sym c.roots.ensures) c.write_lock.ensures.read
