use Rattle.std.proofs.Common.{◌≡◌, drop}
use Rattle.clause_circuits.proofs.AddLoops.{with_front}
use Rattle.criteria_totals.specs.Digits.{bits_on}
use Rattle.criteria_totals.proofs.bits.bits_of.Given as goal

abbrev pub invariant-loop-digit : goal.invariant-loop-digit
invariant-loop-digit l = with_front l.bits.items (bits_on l.plan (drop l.digit-index l.digits)) ≡ bits_on l.fn.plan l.digits
