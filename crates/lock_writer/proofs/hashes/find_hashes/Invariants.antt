use Rattle.std.proofs.Common.{ℕ, ◌+◌}
use Rattle.lock_writer.specs.Known.{AreHashes, DoneBefore, DoneWithin, Keeps}
use Rattle.lock_writer.proofs.hashes.find_hashes.Given as goal

abbrev pub invariant-loop-place : goal.invariant-loop-place
invariant-loop-place l = record {
  right : AreHashes l.graph l.hashes.items l.done.items;
  kept : Keeps l.fn.done.items l.done.items;
  more : (rounds : ℕ) → DoneWithin l.graph rounds l.fn.done.items → DoneBefore l.graph l.place (rounds + 1) l.done.items;
}
