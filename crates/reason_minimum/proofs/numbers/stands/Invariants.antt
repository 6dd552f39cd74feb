use Rattle.std.proofs.Common.{◌≡◌, drop}
use Rattle.explain_failure.specs.Uses.{stands}
use Rattle.reason_minimum.proofs.numbers.stands.Given as goal

abbrev pub invariant-loop-other : goal.invariant-loop-other
invariant-loop-other l = stands (drop l.other-index l.numbers) l.number ≡ stands l.numbers l.number
