use Rattle.lock_writer.proofs.KnownLaws.{one_more}
use Rattle.lock_writer.proofs.hashes.find_hash.Goals as goal

pub returns-clause-right : goal.returns-clause-right
returns-clause-right c = one_more c.args.graph.now c.requires.graph c.args.hashes.now.items c.args.done.now.items c.requires.right
    c.requires.acyclic c.args.place c.args.node.now c.in_ok-hash.hash c.requires.there c.requires.found c.in_ok-hash.ensures
