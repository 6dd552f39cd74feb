use Rattle.std.proofs.Common.{◌≡◌, take, Some, false}
use Rattle.version_order.specs.Machine.{run}
use Rattle.version_order.proofs.VersionLaws.{version_step}
use Rattle.version_order.proofs.reading.version_front.Given as goal

abbrev pub invariant-loop-index : goal.invariant-loop-index
invariant-loop-index l = run version_step false (take l.index l.text) ≡ Some l.inside
