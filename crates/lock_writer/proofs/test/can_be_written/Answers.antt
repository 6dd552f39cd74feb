use Rattle.lock_writer.proofs.TestLaws.{told_ok}
use Rattle.lock_writer.proofs.test.can_be_written.Goals as goal

pub returns : goal.returns
returns c = told_ok c.args.graph.now c.args.database.now c.args.roots.now c.test.result c.nodes.ensures.graph c.test.ensures
