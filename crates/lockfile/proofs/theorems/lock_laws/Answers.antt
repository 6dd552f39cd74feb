use Rattle.std.specs.Cmp.Lexicographic.{nat_list_cmp_total}
use Rattle.variant_values.proofs.Texts.{ties_are_equal}
use Rattle.variant_values.specs.Texts.{byte_cmp}
use Rattle.lockfile.proofs.OneLaws.{AnswersOnce, lock_one, fault_one, lock_right}
use Rattle.lockfile.proofs.theorems.lock_laws.Goals as goal

pub returns : goal.returns
returns c =
    let laws : AnswersOnce = record {
      graphs = c.graph_laws.ensures.same;
      hashes = c.keyed_laws.ensures.same byte_cmp (λ h. h.0) (record { total = nat_list_cmp_total; exact = ties_are_equal });
    } in
    record { one_reading = lock_one laws; one_fault = fault_one; right = lock_right }
