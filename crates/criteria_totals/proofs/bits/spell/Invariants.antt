use Rattle.std.proofs.Common.{◌≡◌, drop}
use Rattle.clause_circuits.specs.Binary.{spell_on}
use Rattle.clause_circuits.proofs.AddLoops.{with_front}
use Rattle.criteria_totals.proofs.bits.spell.Given as goal

abbrev pub invariant-loop-bit : goal.invariant-loop-bit
invariant-loop-bit l = with_front l.lits.items (spell_on l.plan (drop l.bit-index l.bits)) ≡ spell_on l.fn.plan l.bits
