use Rattle.std.proofs.Common.{[]}
use Rattle.lock_writer.proofs.KnownLaws.{hash_free}
use Rattle.lock_writer.proofs.record.own_hash.Goals as goal

pub returns : goal.returns
returns c = rw (hash_free c.args.node.now _ [] c.args.dependencies) at (rw c.in_ok-entry.ensures at c.computed_hash-computed.ensures)
