use Rattle.std.proofs.Common.{◌≡◌, drop, take}
use Rattle.clause_circuits.proofs.AddLoops.{with_front}
use Rattle.criteria_totals.specs.Totals.{totals_on, tops}
use Rattle.criteria_totals.proofs.planned.plan_totals.Given as goal

abbrev pub invariant-loop-terms : goal.invariant-loop-terms
invariant-loop-terms l = record {
  built : with_front l.lits.items (totals_on l.plan (drop l.terms-index l.lists)) ≡ totals_on l.fn.plan l.lists;
  counted : l.tops.items ≡ tops (take l.terms-index l.lists);
}
