use Rattle.std.proofs.lemmas.Result.{err_from_is_err_and}
use Rattle.target_table.proofs.table.TargetTable.new.Goals as goal

pub returns-in_err-places-clause-fault : goal.returns-in_err-places-clause-fault
returns-in_err-places-clause-fault c =
    let p = err_from_is_err_and c.from_residual.result c.from_residual.ensures.1 in
    rw (p.1, p.2, ← c.as_slice.ensures) c.in_err-places.ensures.fault

pub invariant_of-result : goal.invariant_of-result
invariant_of-result c =
    let tables = rw c.as_slice.ensures at c.in_ok-places.ensures in
    record { targets = tables.targets; places = tables.places; ancestors = tables.ancestors }
