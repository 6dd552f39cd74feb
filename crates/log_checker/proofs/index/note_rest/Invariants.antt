use Rattle.std.proofs.Common.{◌≡◌, ◌<◌, length}
use Rattle.log_checker.specs.Links.{AreIndexed}
use Rattle.log_checker.proofs.index.note_rest.Given as goal

abbrev pub invariant-loop-place : goal.invariant-loop-place
invariant-loop-place l = (l.place ≡ length l.links.items) × (0 < length l.heads) × AreIndexed l.factor l.heads l.links.items l.known
