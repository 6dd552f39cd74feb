use Rattle.lock_writer.proofs.KnownLaws.{all_hashed, all_there, hashes_long}
use Rattle.lock_writer.proofs.lock.own_value.Goals as goal

pub dependencies_of-requires : goal.dependencies_of-requires
dependencies_of-requires c = record {
  children = rw (c.edges_from-edges.ensures, c.as_str.ensures) (all_there c.args.graph.now c.requires.graph c.args.node.now.name);
  each = hashes_long c.args.graph.now c.args.hashes.now c.requires.hashes;
  hashes = all_hashed c.args.graph.now c.args.hashes.now c.edges_from-edges.result.now c.requires.hashes;
}
