use Rattle.lock_writer.proofs.KnownLaws.{hash_of_place}
use Rattle.lock_writer.proofs.lock.hash_at.Goals as goal

pub returns : goal.returns
returns c = hash_of_place c.args.graph.now c.args.hashes.now c.args.name.now _ _ c.requires.hashes c.known_place-place.ensures
    c.index-hashes-place.is
