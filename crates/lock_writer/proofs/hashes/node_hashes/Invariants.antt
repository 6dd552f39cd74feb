use Rattle.lock_writer.specs.Known.{AreHashes, DoneWithin}
use Rattle.lock_writer.proofs.hashes.node_hashes.Given as goal

abbrev pub invariant-loop-round : goal.invariant-loop-round
invariant-loop-round l = record {
  right : AreHashes l.graph l.hashes.items l.done.items;
  within : DoneWithin l.graph l.round l.done.items;
}
