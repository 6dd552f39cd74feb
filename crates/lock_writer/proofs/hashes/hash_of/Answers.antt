use Rattle.lock_writer.proofs.KnownLaws.{all_there}
use Rattle.lock_writer.proofs.hashes.hash_of.Goals as goal

pub dependencies_of-requires-clause-children : goal.dependencies_of-requires-clause-children
dependencies_of-requires-clause-children c =
    rw (c.edges_from-edges.ensures, c.as_str.ensures) (all_there c.args.graph.now c.requires.graph c.args.node.now.name)
