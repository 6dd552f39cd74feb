use Rattle.std.proofs.Common.{◌≡◌, ◌+◌, ◌-◌, length}
use Rattle.criteria_totals.specs.Merges.{merge_from}
use Rattle.clause_circuits.proofs.AddLoops.{with_front}
use Rattle.criteria_totals.proofs.merges.merge.Given as goal

abbrev pub invariant-loop-k : goal.invariant-loop-k
invariant-loop-k l = with_front l.lits.items (merge_from (l.k + 1) (length l.a + length l.b - l.k) l.plan l.a l.b)
    ≡ merge_from 1 (length l.a + length l.b) l.fn.plan l.a l.b
