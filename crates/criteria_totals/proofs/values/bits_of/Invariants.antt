use Rattle.std.proofs.Common.{◌≡◌, ◌++◌, drop}
use Rattle.criteria_totals.specs.Spellings.{spell_all, within}
use Rattle.criteria_totals.proofs.values.bits_of.Given as goal

abbrev pub invariant-loop-i : goal.invariant-loop-i
invariant-loop-i l = record {
  so_far : l.values.items ++ spell_all (drop l.i l.tops) (drop l.i l.vector) ≡ spell_all l.tops l.vector;
  fits : within (drop l.i l.tops) (drop l.i l.vector) ≡ within l.tops l.vector;
}
